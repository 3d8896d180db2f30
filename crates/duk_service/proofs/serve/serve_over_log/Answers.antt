use Rattle.std.proofs.Common.{IfErr, OnOk, subst, sym}
use Rattle.duk_config.specs.NewHost.{new_host_of}
use Rattle.duk_service.specs.Serve.{IsServed, ServeRefused, answered_at, over_log, serving_of}
use Rattle.duk_service.specs.declared.left_records.RecordFormat.TheVariants.{Log}
use Rattle.duk_service.proofs.Ended.{not_served, served}
use Rattle.duk_service.proofs.serve.serve_over_log.Goals.{in-Ok, in-Err}
use Rattle.duk_service.proofs.serve.serve_over_log.Goals as goal

pub returns-clause-not_done : goal.returns-clause-not_done
returns-clause-not_done g c =
    let meaning = over_log g.L.UsedLog.meaning in
    let made = new_host_of c.args.config.now c.args.log in
    let s = serving_of g.R.Source.known g.R.Source.reads g.W.Sink.known c.args.input.now c.serve_config.new.input c.args.output.now c.end_service.new.output in
    let written = g.W.Sink.known c.serve_config.new.output in
    not_served Log (IsServed meaning made) (λ why s. ServeRefused meaning made s why) c.match-serve_config.ended c.end_service.result s written
    (elim c.match-serve_config.branch [
      | in-Ok w ↦ subst (λ ended. OnOk ended (IsServed meaning made (answered_at s written))) (sym w.ended-is) (_, w.in-Ok.ensures.served)
      | in-Err w ↦ subst (λ ended. OnOk ended (IsServed meaning made (answered_at s written))) (sym w.ended-is) tt
    ])
    (elim c.match-serve_config.branch [
      | in-Ok w ↦ subst (λ ended. IfErr ended (λ why. ServeRefused meaning made (answered_at s written) why)) (sym w.ended-is) tt
      | in-Err w ↦ subst (λ ended. IfErr ended (λ why. ServeRefused meaning made (answered_at s written) why)) (sym w.ended-is) w.in-Err.ensures.refused
    ])
    c.end_service.ensures.end
