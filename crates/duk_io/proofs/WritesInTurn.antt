-- What several writes leave, from what each of them leaves.
use Rattle.std.proofs.Common.{ℕ, ◌+◌, List, [], ◌++◌, length, take, drop, Option, Some, None, refl, sym, ap, ◌∙◌, inl, inr, length-append, arith}
use Rattle.std.proofs.Math.Seq.{take-add, take-append-add}
use Rattle.std.proofs.KnownBytes.{Appends-nil, Appends-trans}
use Rattle.std.specs.Io.KnownBytes.{Appends, Keeps}
use Rattle.duk_io.specs.Known.{Known, Stayed, Rose}
use Rattle.duk_io.specs.Sink.{IsUntouched, IsWritten, IsCut, IsTried}

-- a count that stayed twice stayed
pub stayed_twice : (a b c : Option ℕ) → Stayed a b → Stayed b c → Stayed a c
stayed_twice None b c first second = tt
stayed_twice (Some n) None c first second = cc first
stayed_twice (Some n) (Some m) c first second = second ∙ first

-- one more write after the first n bytes of the text
pub written_more : (a b c : Known) (text : List ℕ) (n m : ℕ) → IsWritten a b (take n text)
    → Appends b.contents c.contents (take m (drop n text)) → Stayed b.failures c.failures → IsWritten a c (take (n + m) text)
written_more a b c text n m first bytes stayed = record {
  bytes = rw (take-add n m text) (Appends-trans a.contents b.contents c.contents _ _ first.bytes bytes);
  unfailed = stayed_twice a.failures b.failures c.failures first.unfailed stayed;
}

appended_later : (a b c : Option (List ℕ)) (text : List ℕ) → Keeps a b → Appends b c text → Appends a c text
appended_later None b c text kept bytes = tt
appended_later (Some x) None c text kept bytes = absurd kept
appended_later (Some x) (Some y) None text kept bytes = absurd bytes
appended_later (Some x) (Some y) (Some z) text kept bytes = bytes ∙ ap (λ l. l ++ text) kept

-- a count that stayed and then rose, rose
pub rose_later : (a b c : Option ℕ) → Stayed a b → Rose b c → Rose a c
rose_later None b c stayed rose = tt
rose_later (Some n) None c stayed rose = cc stayed
rose_later (Some n) (Some m) c stayed rose = λ same. rose (same ∙ sym stayed)

-- a text that was tried after nothing had been written was tried
pub tried_later : (a b c : Known) (text : List ℕ) → IsUntouched a b → IsTried b c text → IsTried a c text
tried_later a b c text quiet (inl whole) = inl (record {
  bytes = appended_later a.contents b.contents c.contents text quiet.bytes whole.bytes;
  unfailed = stayed_twice a.failures b.failures c.failures quiet.unfailed whole.unfailed;
})
tried_later a b c text quiet (inr (count, cut)) = inr (
  count,
  record {
    short = cut.short;
    bytes = appended_later a.contents b.contents c.contents (take count text) quiet.bytes cut.bytes;
    failed = rose_later a.failures b.failures c.failures quiet.unfailed cut.failed;
  },
)

pub stayed_refl : (a : Option ℕ) → Stayed a a
stayed_refl None = tt
stayed_refl (Some n) = refl

-- nothing was written
pub written_none : (a : Known) → IsWritten a a []
written_none a = record { bytes = Appends-nil a.contents; unfailed = stayed_refl a.failures }

-- two texts written one after the other
pub written_then : (a b c : Known) (first second : List ℕ) → IsWritten a b first → IsWritten b c second → IsWritten a c (first ++ second)
written_then a b c first second one two = record {
  bytes = Appends-trans a.contents b.contents c.contents first second one.bytes two.bytes;
  unfailed = stayed_twice a.failures b.failures c.failures one.unfailed two.unfailed;
}

-- a text that was cut after one that was written
pub cut_later : (a b c : Known) (first second : List ℕ) → IsWritten a b first → IsCut b c second → IsCut a c (first ++ second)
cut_later a b c first second one (count, two) = (
  length first + count,
  record {
    short = omega (arith, two.short, length-append first second);
    bytes = rw (take-append-add first second count) (Appends-trans a.contents b.contents c.contents first (take count second) one.bytes two.bytes);
    failed = rose_later a.failures b.failures c.failures one.unfailed two.failed;
  },
)

kept : (a : Option (List ℕ)) → Keeps a a
kept None = tt
kept (Some bytes) = refl

-- nothing was written, and nothing failed, where nothing was done
pub untouched : (a : Known) → IsUntouched a a
untouched a = record { bytes = kept a.contents; unfailed = stayed_refl a.failures }
