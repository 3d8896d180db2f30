use Rattle.std.proofs.Common.{◌+◌, [], List, ℕ, arith, refl, subst, sym}
use Rattle.std.proofs.lemmas.List.{append-nil}
use Rattle.duk_store.specs.Records.{IsOpen}
use Rattle.duk_store.specs.inner.Reading.{HasReadBehind}
use Rattle.duk_store.proofs.RecordsRead.{behind_read}
use Rattle.duk_store.proofs.reading.read_behind.Goals as goal

pub returns-else-bytes-eq-OPEN-clause-read : goal.returns-else-bytes-eq-OPEN-clause-read
returns-else-bytes-eq-OPEN-clause-read g c =
    let format = g.F.Format.meaning c.args.format.now in
    record {
      items = [];
      taken = refl {a = c.args.visitor.now};
      kept = omega arith;
      most = omega arith;
      read = λ earlier place bytes is was.
          subst (λ l. HasReadBehind format c.args.kept l (place + 1) bytes) (sym (append-nil earlier))
          (behind_read format c.args.kept place earlier bytes was (subst (λ (r : List ℕ). ¬ IsOpen r) (sym is.0) c.if-bytes-eq-OPEN.false));
    }
