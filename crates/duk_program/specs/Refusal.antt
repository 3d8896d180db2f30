-- Which answer is a refusal (this project's own).
use Rattle.std.specs.Prelude.{◌≡◌, ◌⊎◌, List, codes, ℕ}
use Rattle.duk_arguments.specs.Request.{Written, text_in}
use Rattle.duk_arguments.specs.declared.name.CommandName.TheVariants as name
use Rattle.duk_block.specs.Hexadecimal.{IsHexadecimal}
use Rattle.duk_frame.specs.Answer.{IsRefusal}
use Rattle.duk_tree.specs.Serial.{Serial}

-- a text is the frame of a refusal in hexadecimal
pub record IsRefusalText (text : List ℕ) : Type 0 where
  pub bytes : List ℕ
  pub read : IsHexadecimal text bytes
  pub ksn : Serial
  pub reason : ℕ
  pub refusal : IsRefusal bytes ksn reason

-- a request asks `reply` of a refusal, which nothing authenticates
pub record AsksOfRefusal (asked : Written) : Type 0 where
  pub command : asked.command ≡ name.Reply
  pub refusal : IsRefusalText (text_in (codes "ANSWER") asked)

-- the statuses of what is done, and of a run of the program
abbrev pub IsDoneStatus : ℕ → Type 0
IsDoneStatus status = (status ≡ 0) ⊎ (status ≡ 3)

abbrev pub IsProgramStatus : ℕ → Type 0
IsProgramStatus status = (status ≡ 0) ⊎ (status ≡ 1) ⊎ (status ≡ 2) ⊎ (status ≡ 3)

-- the status of a request that is done: 3 where it asks of a refusal
abbrev pub IsEndStatus : Written → ℕ → Type 0
IsEndStatus asked status = ((status ≡ 0) × ¬ AsksOfRefusal asked) ⊎ ((status ≡ 3) × AsksOfRefusal asked)
