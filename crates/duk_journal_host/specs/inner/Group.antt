-- What holds of a group of frames in memory: this project's own.
use Rattle.std.specs.Prelude.{◌≤◌, vec_capacity, vec_len}
use Rattle.std.specs.Global.{Vec}
use Rattle.duk_journal_host.specs.Group.{most_frames}

-- there is room for the answers to a whole group, and for an entry of each frame, and there are no
-- more
pub record HasRoom {A B : Type 0} (answers : Vec A) (entries : Vec B) : Type 0 where
  pub answers_fit : most_frames ≤ vec_capacity answers
  pub few : vec_len answers ≤ most_frames
  pub entries_fit : most_frames ≤ vec_capacity entries
  pub fewer : vec_len entries ≤ most_frames
