-- What a format of records is: this project's own. A record is a byte that is its gate, and the
-- contents behind it.
use Rattle.std.specs.Prelude.{◌≡◌, ◌≤◌, ◌+◌, ℕ, List, length}

-- what may be said of a format whose items are of one type
pub record FormatMeaning (I : Type 0) : Type 1 where
  -- the bytes of a record
  pub record_length : ℕ
  -- how many records in front are no items: none, or the header
  pub headers : ℕ
  -- the bytes of a record are a header
  pub is_header : List ℕ → Type 0
  -- the most records of a group
  pub most : ℕ
  -- the item is one that is kept
  pub may_stand : I → Type 0
  -- the identity that the header gives its disk
  pub identity : List ℕ → ℕ
  -- on the disk of an identity, of the record at a place: so many of its group follow, and its item is
  -- this, where it has these contents
  pub says : ℕ → ℕ → ℕ → I → List ℕ → Type 0

-- what each format is held to
pub record IsFormat {I : Type 0} (format : FormatMeaning I) : Type 0 where
  -- a record has contents
  pub has_contents : 2 ≤ format.record_length
  pub one_header : format.headers ≤ 1
  pub group_fits : format.most ≤ 65536
  -- contents are those of a whole record, ..
  pub whole : (identity place followers : ℕ) (item : I) (contents : List ℕ)
      → format.says identity place followers item contents → length contents + 1 ≡ format.record_length
  -- .. of a group that is not too long, ..
  pub followers_fit : (identity place followers : ℕ) (item : I) (contents : List ℕ)
      → format.says identity place followers item contents → followers + 1 ≤ format.most
  -- .. and say one thing at most
  pub one_reading : (identity place followers others : ℕ) (item other : I) (contents : List ℕ)
      → format.says identity place followers item contents
      → format.says identity place others other contents
      → (followers ≡ others) × (item ≡ other)
