use Rattle.std.proofs.Common.{◌≡◌, ◌∙◌, ◌<◌, ◌++◌, ◌∷◌, List, ℕ, [], ap, arith, get_or, length, map, subst, sym, take}
use Rattle.std.proofs.lemmas.List.{append_assoc, get_or-map, get_or-take, length-append, length-take-le, map_more, take-map, take_all}
use Rattle.std.specs.Borrow.{Bor}
use Rattle.duk_group.specs.Numbers.{bytes_at, message_at, number_at}
use Rattle.duk_hsm.specs.Commands.{HasTransactionKey, IsReplyMac}
use Rattle.duk_journal_host.specs.inner.Draft.{frame_of, text_in}
use Rattle.duk_journal_host.proofs.Drafts.{completed, under_at}
use Rattle.duk_journal_host.proofs.draft.complete.Goals as goal

pub loop-place-preserved : goal.loop-place-preserved
loop-place-preserved c =
    let drafts = c.args.drafts.now in
    let place = c.loop-place.place in
    let draft = c.index-drafts-place.result in
    let mac = bytes_at c.reply_macs-macs.result place in
    let old = c.args.group.now in
    let group = c.loop-place.group in
    let within = c.loop-place-test.true in
    record {
      counted = omega (arith, ap length c.push_answer.ensures.answers, length-append group.answers (c.with_mac.result.items ∷ []), c.loop-place.invariant.counted);
      answers = λ keys numbers opened under.
          let f = frame_of keys in
          let at = under_at keys numbers drafts place draft under within (sym c.index-drafts-place.is) in
          let text : message_at c.texts_of.result place ≡ text_in draft =
          c.texts_of.ensures place within ∙ get_or-map text_in drafts place draft [] within ∙ ap text_in (sym c.index-drafts-place.is) in
          let first : message_at (take (length drafts) c.texts_of.result) place ≡ text_in draft =
          ap (λ (all : List (List ℕ)). get_or all place []) (sym (take-map (λ (message : Bor (List ℕ)). message.now) (length drafts) c.texts_of.result))
          ∙ get_or-take (length drafts) (map (λ (message : Bor (List ℕ)). message.now) c.texts_of.result) place [] within
          ∙ text in
          let made : HasTransactionKey keys (number_at numbers place) → 0 < length (text_in draft) → IsReplyMac keys (number_at numbers place) (text_in draft) mac = λ has some.
          subst (λ text. IsReplyMac keys (number_at numbers place) text mac) first
          (c.reply_macs-macs.ensures.made keys numbers place opened at.0 (omega (arith, within, c.requires.few, length-take-le (length drafts) c.texts_of.result (omega arith))) has (subst (λ text. 0 < length text) (sym first) some)) in
          let answer : c.with_mac.result.items ≡ f draft = c.with_mac.ensures ∙ completed keys (number_at numbers place) draft mac at.1 made in
          c.push_answer.ensures.answers ∙ ap (λ answers. answers ++ c.with_mac.result.items ∷ []) (c.loop-place.invariant.answers keys numbers opened under)
          ∙ ap (λ answer. (old.answers ++ map f (take place drafts)) ++ answer ∷ []) (answer ∙ ap f c.index-drafts-place.is)
          ∙ append_assoc old.answers (map f (take place drafts)) (f (get_or drafts place draft) ∷ [])
          ∙ ap (λ more. old.answers ++ more) (sym (map_more f drafts place draft within));
      entries = c.push_answer.ensures.entries ∙ c.loop-place.invariant.entries;
    }

pub returns-clause-answers : goal.returns-clause-answers
returns-clause-answers c = λ keys numbers opened under.
    let drafts = c.args.drafts.now in
    c.loop-place.invariant.answers keys numbers opened under
    ∙ ap (λ drafts. c.args.group.now.answers ++ map (frame_of keys) drafts) (take_all c.loop-place.place drafts (omega (arith, c.loop-place-test.false)))
