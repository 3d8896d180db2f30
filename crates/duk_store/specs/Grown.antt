-- A disk that is made larger: this project's own.
use Rattle.std.specs.Prelude.{◌-◌, ℕ, replicate}
use Rattle.duk_store.specs.Format.{FormatMeaning}

-- the contents of a record of zeros say nothing in this format
abbrev pub SaysNoZeros : {I : Type 0} → FormatMeaning I → Type 0
SaysNoZeros {I} format = (identity place followers : ℕ) (item : I)
    → ¬ format.says identity place followers item (replicate (format.record_length - 1) 0)
