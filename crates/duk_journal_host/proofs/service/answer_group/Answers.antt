use Rattle.std.proofs.Common.{◌≡◌, ◌==◌, List, [], true, length, map, ap, sym, ◌∙◌}
use Rattle.std.proofs.lemmas.Bool.{eqb-true}
use Rattle.std.proofs.lemmas.List.{nil_from_length}
use Rattle.duk_journal_host.specs.Host.{host_meaning_of}
use Rattle.duk_journal_host.specs.Serve.{service}
use Rattle.duk_journal_host.proofs.Serving.{WriteLaws, answered_none}
use Rattle.duk_journal_host.proofs.service.answer_group.Goals as goal

none_of : {A B : Type 0} (things slice : List A) (texts : List B) (text_of : A → B) → map text_of things ≡ texts → slice ≡ things → true ≡ (length slice == 0) → texts ≡ []
none_of things slice texts text_of is same none =
    sym is ∙ ap (λ things. map text_of things) (sym same) ∙ ap (λ things. map text_of things) (nil_from_length slice (eqb-true (length slice) 0 (sym none)))

pub returns-then-is_empty-clause-answered : goal.returns-then-is_empty-clause-answered
returns-then-is_empty-clause-answered g c =
    let laws : WriteLaws = record { none = c.writes.ensures.none; next = c.writes.ensures.then } in
    let none : c.args.work.now.frames ≡ [] = none_of c.work.inside.frames.items c.as_slice-frames.result.now c.args.work.now.frames (λ frame. frame.items) (ap (λ work. work.frames) c.work.view_is) c.as_slice-frames.ensures.value c.if-is_empty.ensures in
    answered_none (host_meaning_of g.J.Journal.meaning g.I.Issuer.decides) laws (service c.args.host.now (g.W.Sink.known c.args.writer.now)) c.args.work.now.frames none
