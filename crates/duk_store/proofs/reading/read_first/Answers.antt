use Rattle.std.proofs.Common.{◌+◌, ◌∷◌, ◌∙◌, [], inl, inr, List, ℕ, arith, refl, subst, sym}
use Rattle.std.proofs.lemmas.List.{append-nil, append_assoc}
use Rattle.std.proofs.lemmas.Result.{err_from_is_err_and}
use Rattle.duk_store.specs.Records.{IsOpen}
use Rattle.duk_store.specs.inner.Reading.{HasReadBehind}
use Rattle.duk_store.proofs.RecordsRead.{end_read, first_read, no_first, said_here, said_there}
use Rattle.duk_store.proofs.reading.read_first.Goals as goal

pub returns-then-bytes-ne-OPEN-clause-read : goal.returns-then-bytes-ne-OPEN-clause-read
returns-then-bytes-ne-OPEN-clause-read g c =
    let format = g.F.Format.meaning c.args.format.now in
    record {
      items = [];
      taken = refl {a = c.args.visitor.now};
      kept = omega arith;
      most = omega arith;
      read = λ earlier place bytes is was.
          subst (λ l. HasReadBehind format c.args.kept l (place + 1) bytes) (sym (append-nil earlier))
          (end_read format c.args.kept place earlier bytes was (subst (λ (r : List ℕ). ¬ IsOpen r) (sym is.0) c.if-bytes-ne-OPEN.true));
    }

pub returns-in_err-said-clause-refused : goal.returns-in_err-said-clause-refused
returns-in_err-said-clause-refused g c =
    let format = g.F.Format.meaning c.args.format.now in
    let p = err_from_is_err_and c.from_residual.result c.from_residual.ensures.1 in
    let none = c.in_err-said.ensures.none in
    rw (p.1, p.2) (inl (
      none.0,
      λ earlier place bytes is was.
          no_first format c.args.kept place earlier bytes was (subst IsOpen (sym is.0) c.if-bytes-ne-OPEN.false)
          (λ followers item has. none.1 followers item (said_here format c.args.identity (format.headers + c.args.kept) place followers item c.args.bytes.now bytes is was.all_kept has)),
    ))

pub returns-in_err-take-clause-refused : goal.returns-in_err-take-clause-refused
returns-in_err-take-clause-refused g c =
    let format = g.F.Format.meaning c.args.format.now in
    let p = err_from_is_err_and c.from_residual-in_err-take.result c.from_residual-in_err-take.ensures.1 in
    rw (p.1, p.2) (inr (record {
      items = [];
      item = c.in_ok-said.said.1;
      visited = c.args.visitor.now;
      taken = refl {a = c.args.visitor.now};
      refused = c.in_err-take.ensures.refused;
      begins = λ earlier place bytes is was listed are.
          let has = said_there format c.args.identity (format.headers + c.args.kept) place c.in_ok-said.said.0 c.in_ok-said.said.1 c.args.bytes.now bytes is was.all_kept c.in_ok-said.ensures.found in
          let read = first_read format c.args.kept place earlier bytes c.requires.format c.in_ok-said.said.0 c.in_ok-said.said.1 was (subst IsOpen (sym is.0) c.if-bytes-ne-OPEN.false) has in
          let rest = read.parts listed are in
          (rest.0, rest.2 ∙ append_assoc earlier (c.in_ok-said.said.1 ∷ []) rest.0);
    }))

pub returns-clause-read : goal.returns-clause-read
returns-clause-read g c =
    let format = g.F.Format.meaning c.args.format.now in
    record {
      items = c.in_ok-said.said.1 ∷ [];
      taken = (c.take.new.self, c.in_ok-take.ensures.taken, refl);
      kept = omega arith;
      most = omega arith;
      read = λ earlier place bytes is was.
          let has = said_there format c.args.identity (format.headers + c.args.kept) place c.in_ok-said.said.0 c.in_ok-said.said.1 c.args.bytes.now bytes is was.all_kept c.in_ok-said.ensures.found in
          first_read format c.args.kept place earlier bytes c.requires.format c.in_ok-said.said.0 c.in_ok-said.said.1 was (subst IsOpen (sym is.0) c.if-bytes-ne-OPEN.false) has;
    }
