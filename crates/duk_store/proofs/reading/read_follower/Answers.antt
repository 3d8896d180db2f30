use Rattle.std.proofs.Common.{◌+◌, ◌∷◌, ◌∙◌, [], inl, inr, List, ℕ, arith, refl, subst, sym}
use Rattle.std.proofs.lemmas.List.{append_assoc}
use Rattle.std.proofs.lemmas.Result.{err_from_is_err_and}
use Rattle.duk_store.specs.Records.{HasContents, IsOpen, after_gate}
use Rattle.duk_store.proofs.RecordsRead.{follower_read, no_follower, said_here, said_there}
use Rattle.duk_store.proofs.reading.read_follower.Goals as goal

pub returns-then-bytes-eq-OPEN-clause-refused : goal.returns-then-bytes-eq-OPEN-clause-refused
returns-then-bytes-eq-OPEN-clause-refused g c =
    let format = g.F.Format.meaning c.args.format.now in
    inl (
      refl,
      λ earlier place bytes is was.
          no_follower format c.args.kept place earlier bytes c.args.left c.requires.some was (inl (subst IsOpen (sym is.0) c.if-bytes-eq-OPEN.true)),
    )

pub returns-in_err-said-clause-refused : goal.returns-in_err-said-clause-refused
returns-in_err-said-clause-refused g c =
    let format = g.F.Format.meaning c.args.format.now in
    let p = err_from_is_err_and c.from_residual.result c.from_residual.ensures.1 in
    let none = c.in_err-said.ensures.none in
    rw (p.1, p.2) (inl (
      none.0,
      λ earlier place bytes is was.
          no_follower format c.args.kept place earlier bytes c.args.left c.requires.some was
          (inr (λ item has. none.1 0 item (said_here format c.args.identity (format.headers + c.args.kept) place 0 item c.args.bytes.now bytes is was.all_kept has))),
    ))

pub returns-then-said-ne0-clause-refused : goal.returns-then-said-ne0-clause-refused
returns-then-said-ne0-clause-refused g c =
    let format = g.F.Format.meaning c.args.format.now in
    let followers = c.in_ok-said.said.0 in
    let said = c.in_ok-said.said.1 in
    inl (
      refl,
      λ earlier place bytes is was.
          no_follower format c.args.kept place earlier bytes c.args.left c.requires.some was
          (inr (λ item has.
          let here = said_here format c.args.identity (format.headers + c.args.kept) place 0 item c.args.bytes.now bytes is was.all_kept has in
          c.if-said-ne0.true (c.requires.format.one_reading c.args.identity (format.headers + c.args.kept) followers 0 said item (after_gate c.args.bytes.now) c.in_ok-said.ensures.found here).0)),
    )

pub returns-in_err-take-clause-refused : goal.returns-in_err-take-clause-refused
returns-in_err-take-clause-refused g c =
    let format = g.F.Format.meaning c.args.format.now in
    let item = c.in_ok-said.said.1 in
    let p = err_from_is_err_and c.from_residual-in_err-take.result c.from_residual-in_err-take.ensures.1 in
    rw (p.1, p.2) (inr (record {
      items = [];
      item = item;
      visited = c.args.visitor.now;
      taken = refl {a = c.args.visitor.now};
      refused = c.in_err-take.ensures.refused;
      begins = λ earlier place bytes is was listed are.
          let alone = subst (λ (f : ℕ). HasContents format c.args.identity (format.headers + c.args.kept) f item c.args.bytes.now) c.if-said-ne0.false c.in_ok-said.ensures.found in
          let has = said_there format c.args.identity (format.headers + c.args.kept) place 0 item c.args.bytes.now bytes is was.all_kept alone in
          let read = follower_read format c.args.kept place earlier bytes c.requires.format c.args.left item c.requires.some was (subst (λ (r : List ℕ). ¬ IsOpen r) (sym is.0) c.if-bytes-eq-OPEN.false) has in
          let rest = read.parts listed are in
          (rest.0, rest.2 ∙ append_assoc earlier (item ∷ []) rest.0);
    }))

pub returns-clause-read : goal.returns-clause-read
returns-clause-read g c =
    let format = g.F.Format.meaning c.args.format.now in
    let item = c.in_ok-said.said.1 in
    record {
      items = item ∷ [];
      taken = (c.take.new.self, c.in_ok-take.ensures.taken, refl);
      kept = omega arith;
      most = omega arith;
      read = λ earlier place bytes is was.
          let alone = subst (λ (f : ℕ). HasContents format c.args.identity (format.headers + c.args.kept) f item c.args.bytes.now) c.if-said-ne0.false c.in_ok-said.ensures.found in
          let has = said_there format c.args.identity (format.headers + c.args.kept) place 0 item c.args.bytes.now bytes is was.all_kept alone in
          follower_read format c.args.kept place earlier bytes c.requires.format c.args.left item c.requires.some was (subst (λ (r : List ℕ). ¬ IsOpen r) (sym is.0) c.if-bytes-eq-OPEN.false) has;
    }
