-- Records that are read one after the other.
use Rattle.std.proofs.Common.{◌≡◌, inl, inr, ℕ, ◌+◌, List, [], ◌∷◌, ◌++◌, refl, sym, ◌∙◌, ap, subst, arith, length-append}
use Rattle.std.proofs.lemmas.List.{append-nil, append_assoc}
use Rattle.duk_store.specs.declared.fault.StoreFault.{StoreFault}
use Rattle.duk_store.specs.Format.{FormatMeaning}
use Rattle.duk_store.specs.Visitor.{TakesAll}
use Rattle.duk_store.specs.inner.Reading.{HasRead, IsUnreadable, ReadsOn}
use Rattle.duk_store.specs.declared.reading.Reading.{Reading}

pub takes_on : {V I : Type 0} (takes : V → I → V → Type 0) (one two : List I) (a b c : V) → TakesAll takes one a b → TakesAll takes two b c → TakesAll takes (one ++ two) a c
takes_on takes [] two a b c first second = subst (λ v. TakesAll takes two v c) first second
takes_on takes (x ∷ one) two a b c first second = (first.0, first.1, takes_on takes one two first.0 b c first.2 second)

module _ {I V : Type 0} (format : FormatMeaning I) (takes : V → I → V → Type 0) where
  pub reads_none : (reading : Reading) (standing : ℕ → List ℕ → Type 0) (visitor : V) → ReadsOn format takes reading 0 standing visitor visitor reading
  reads_none reading standing visitor = record {
    items = [];
    taken = refl;
    kept = omega arith;
    most = omega arith;
    read = λ earlier place bytes stands was.
        let here : place ≡ place + 0 = omega arith in
        subst (λ (at : ℕ). HasRead format reading (earlier ++ []) at bytes) here (subst (λ (l : List I). HasRead format reading l place bytes) (sym (append-nil earlier)) was);
  }

  module _ (before mid : Reading) (n : ℕ) (standing other : ℕ → List ℕ → Type 0) (a b : V) (one : ReadsOn format takes before n standing a b mid) (there : (place : ℕ) (bytes : List ℕ) → standing place bytes → other (place + n) bytes) where
    pub reads_on : (m : ℕ) (c : V) (after : Reading) → ReadsOn format takes mid m other b c after → ReadsOn format takes before (n + m) standing a c after
    reads_on m c after two = record {
      items = one.items ++ two.items;
      taken = takes_on takes one.items two.items a b c one.taken two.taken;
      kept = omega (arith, one.kept, two.kept, length-append one.items two.items);
      most = omega (arith, one.most, two.most, length-append one.items two.items);
      read = λ earlier place bytes stands was.
          let far : place + n + m ≡ place + (n + m) = omega arith in
          subst (λ (at : ℕ). HasRead format after (earlier ++ (one.items ++ two.items)) at bytes) far
          (subst (λ (l : List I). HasRead format after l (place + n + m) bytes) (append_assoc earlier one.items two.items)
          (two.read (earlier ++ one.items) (place + n) bytes (there place bytes stands) (one.read earlier place bytes stands was)));
    }

    pub unread_on : (refuses : V → I → StoreFault → Type 0) (why : StoreFault) → IsUnreadable format takes refuses mid other b why → IsUnreadable format takes refuses before standing a why
    unread_on refuses why (inl none) = inl (none.0, λ earlier place bytes stands was. none.1 (earlier ++ one.items) (place + n) bytes (there place bytes stands) (one.read earlier place bytes stands was))
    unread_on refuses why (inr r) = inr (record {
      items = one.items ++ r.items;
      item = r.item;
      visited = r.visited;
      taken = takes_on takes one.items r.items a b r.visited one.taken r.taken;
      refused = r.refused;
      begins = λ earlier place bytes stands was listed are.
          let found = r.begins (earlier ++ one.items) (place + n) bytes (there place bytes stands) (one.read earlier place bytes stands was) listed are in (
            found.0,
            found.1 ∙ append_assoc earlier one.items (r.items ++ r.item ∷ found.0) ∙ ap (λ (l : List I). earlier ++ l) (sym (append_assoc one.items r.items (r.item ∷ found.0))),
          );
    })
