-- A medium over an open file: this project's own.
use Rattle.std.specs.Prelude.{◌≡◌, ℕ, Bool, true, false}
use Rattle.duk_store.specs.Medium.{MediumState}

-- a medium over an open file: the file, how many bytes it had when it was opened, and whether a
-- write or a sync of it has failed since
pub record FileMediumOf (F : Type 0) : Type 0 where
  pub file : F
  pub size : ℕ
  pub has_failed : Bool

-- the medium as it is made: nothing has failed
abbrev pub new_file_medium : {F : Type 0} → F → ℕ → FileMediumOf F
new_file_medium file size = record { file = file; size = size; has_failed = false }

-- the file is honest, and neither it nor the medium fails
pub record IsCalmFile (file : MediumState) (has_failed : Bool) : Type 0 where
  pub file_honest : file.honest
  pub file_calm : file.calm
  pub none_failed : has_failed ≡ false

-- the state of the medium: its bytes are those of its file, and it keeps in mind what failed
abbrev pub file_medium_state : {F : Type 0} → (F → MediumState) → FileMediumOf F → MediumState
file_medium_state state medium = record (state medium.file) {
  calm = IsCalmFile (state medium.file) medium.has_failed;
  failed = medium.has_failed ≡ true;
}

-- Of what follows only the code of the medium speaks.
