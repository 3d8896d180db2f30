-- What a window gives is what the file has.
use Rattle.std.proofs.Common.{◌≡◌, ℕ, ◌+◌, ◌-◌, ◌≤◌, List, length, take, drop, sym, ap, subst, ◌∙◌, arith}
use Rattle.std.proofs.lemmas.List.{drop-drop, drop-take, take-take}
use Rattle.duk_store.specs.Disk.{range_of}
use Rattle.duk_store.specs.Medium.{MediumState}
use Rattle.duk_store.specs.inner.Window.{Agrees, Gives, WindowOf}

-- the range of a range
range_of-range_of : (start m d n : ℕ) (bytes : List ℕ) → d + n ≤ m → range_of d n (range_of start m bytes) ≡ range_of (start + d) n bytes
range_of-range_of start m d n bytes inside =
    let whole : d + (m - d) ≡ m = omega (arith, inside) in
    let shorter : n ≤ m - d = omega (arith, inside) in
    ap (λ k. take n (drop d (take k (drop start bytes)))) (sym whole)
    ∙ ap (take n) (drop-take d (m - d) (drop start bytes))
    ∙ take-take n (m - d) (drop d (drop start bytes)) shorter
    ∙ ap (take n) (drop-drop d start bytes)

pub given_is_read : (file : MediumState) (at : ℕ) (bytes : List ℕ) (window : WindowOf) → Agrees file window → Gives at bytes window → file.honest → bytes ≡ range_of at (length bytes) file.reads
given_is_read file at bytes window agrees gives honest =
    let start = window.start in
    let inside : (at - start) + length bytes ≤ length window.bytes = omega (arith, gives.behind_start, gives.before_end) in
    let place : start + (at - start) ≡ at = omega (arith, gives.behind_start) in
    gives.given
    ∙ ap (range_of (at - start) (length bytes)) (agrees.same honest)
    ∙ range_of-range_of start (length window.bytes) (at - start) (length bytes) file.reads inside
    ∙ ap (λ from. range_of from (length bytes) file.reads) place

-- the same, where the file is told by another name
pub given_is_read_of : {F : Type 0} (state : F → MediumState) (inside file : F) → inside ≡ file → (at : ℕ) (bytes : List ℕ) (window : WindowOf) → Agrees (state inside) window
    → Gives at bytes window → (state file).honest → bytes ≡ range_of at (length bytes) (state file).reads
given_is_read_of {F} state inside file same at bytes window agrees gives =
    subst (λ file. (state file).honest → bytes ≡ range_of at (length bytes) (state file).reads) same (given_is_read (state inside) at bytes window agrees gives)
