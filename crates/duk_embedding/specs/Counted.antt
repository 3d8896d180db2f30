-- A cell that counts what is put into another cell: this example's own.
use Rattle.std.specs.Prelude.{ℕ}
use Rattle.duk_store.specs.Cell.{CellMeaning}

-- the cell below, and how many bodies it kept
pub record CountedCellOf (C : Type 0) : Type 0 where
  pub cell : C
  pub puts : ℕ

-- it means what the cell below means, whatever the count
abbrev pub counted_meaning : {C : Type 0} → CellMeaning C → CellMeaning (CountedCellOf C)
counted_meaning meaning = record {
  state_of = λ counted. meaning.state_of counted.cell;
  worn = λ counted. meaning.worn counted.cell;
  disarmed = λ counted. meaning.disarmed counted.cell;
  arms = λ old steps new. meaning.arms old.cell steps new.cell;
  after_put = λ counted body. meaning.after_put counted.cell body;
}
