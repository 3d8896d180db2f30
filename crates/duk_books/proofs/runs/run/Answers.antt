use Rattle.duk_books.specs.Books.{meanings_of}
use Rattle.duk_books.specs.CallLeads.{CallLeads}
use Rattle.duk_books.specs.Gained.{GainedMeet}
use Rattle.duk_books.specs.Reached.{Reached}
use Rattle.duk_books.proofs.moves.CallsLead.{call_leads, gained_so}
use Rattle.duk_books.proofs.moves.ReachedByMoves.{reached_call}
use Rattle.duk_books.proofs.runs.run.Goals as goal

reached : (g : _) (c : goal.After-run_system g) → Reached (meanings_of g.C.Cell.meaning g.B.Cell.meaning g.J.Journal.meaning g.I.Issuer.decides) c.run_system.new.system
reached g c =
    reached_call _ c.books.inside.system c.args.events.now c.args.out.now.items c.run_system.new.out.items c.run_system.new.system c.run_system.result c.books.invariant c.run_system.ensures.run c.run_system.ensures.refused

-- what the call leads from and to
leads : (g : _) (c : goal.After-run_system g)
    → GainedMeet (λ outcomes. CallLeads (meanings_of g.C.Cell.meaning g.B.Cell.meaning g.J.Journal.meaning g.I.Issuer.decides) c.books.inside.system outcomes c.run_system.new.system) c.args.out.now.items c.run_system.new.out.items
leads g c = call_leads _ c.books.inside.system c.args.events.now c.args.out.now.items c.run_system.new.out.items c.run_system.new.system c.run_system.result c.run_system.ensures.run c.run_system.ensures.refused

pub invariant_of-books : goal.invariant_of-books
invariant_of-books g c = reached g c

pub returns-clause-agree : goal.returns-clause-agree
returns-clause-agree g c = c.agreement.ensures.agree c.run_system.new.system (reached g c)

pub returns-clause-totals : goal.returns-clause-totals
returns-clause-totals g c = c.agreement.ensures.totals c.run_system.new.system (reached g c)

pub returns-clause-sent : goal.returns-clause-sent
returns-clause-sent g c = c.agreement.ensures.sent c.run_system.new.system (reached g c)

pub returns-clause-told : goal.returns-clause-told
returns-clause-told g c =
    rw (← c.books.view_is) (gained_so _ _ c.args.out.now.items c.run_system.new.out.items (λ outcomes. c.agreement.ensures.told c.books.inside.system c.run_system.new.system outcomes c.books.invariant) (leads g c))

pub returns-clause-owners_stay : goal.returns-clause-owners_stay
returns-clause-owners_stay g c =
    let led = leads g c in
    rw (← c.books.view_is) (c.what_stays.ensures.owners c.books.inside.system c.run_system.new.system led.outcomes c.books.invariant led.holds)

pub returns-clause-keys_stay : goal.returns-clause-keys_stay
returns-clause-keys_stay g c =
    let led = leads g c in
    rw (← c.books.view_is) (c.what_stays.ensures.keys c.books.inside.system c.run_system.new.system led.outcomes c.books.invariant led.holds)

pub returns-clause-used_once : goal.returns-clause-used_once
returns-clause-used_once g c = c.numbers.ensures.used_once c.run_system.new.system (reached g c)

pub returns-clause-used_are_owned : goal.returns-clause-used_are_owned
returns-clause-used_are_owned g c = c.numbers.ensures.used_are_owned c.run_system.new.system (reached g c)

pub returns-clause-owned_when_sent : goal.returns-clause-owned_when_sent
returns-clause-owned_when_sent g c =
    rw (← c.books.view_is) (gained_so _ _ c.args.out.now.items c.run_system.new.out.items (λ outcomes. c.numbers.ensures.owned_when_sent c.books.inside.system c.run_system.new.system outcomes c.books.invariant) (leads g c))

pub returns-clause-sent_by_owner : goal.returns-clause-sent_by_owner
returns-clause-sent_by_owner g c =
    gained_so _ _ c.args.out.now.items c.run_system.new.out.items (λ outcomes. c.numbers.ensures.sent_by_owner c.books.inside.system c.run_system.new.system outcomes c.books.invariant) (leads g c)

pub returns-clause-own_key_of_requests : goal.returns-clause-own_key_of_requests
returns-clause-own_key_of_requests g c = c.own_key_of_requests.ensures c.run_system.new.system (reached g c)

pub returns-clause-above_used : goal.returns-clause-above_used
returns-clause-above_used g c = c.no_used_key.ensures.above_used c.run_system.new.system (reached g c)

pub returns-clause-no_used_key : goal.returns-clause-no_used_key
returns-clause-no_used_key g c = c.no_used_key.ensures.no_used_key c.run_system.new.system (reached g c)

pub returns-clause-version_2 : goal.returns-clause-version_2
returns-clause-version_2 g c = c.no_used_key.ensures.version_2 c.run_system.new.system (reached g c)

pub returns-clause-books_have_no_key : goal.returns-clause-books_have_no_key
returns-clause-books_have_no_key g c = c.no_used_key.ensures.books_have_no_key c.run_system.new.system (reached g c)

pub returns-clause-accepted_once : goal.returns-clause-accepted_once
returns-clause-accepted_once g c =
    rw (← c.books.view_is) (gained_so _ _ c.args.out.now.items c.run_system.new.out.items (λ outcomes. c.accepted_once.ensures.accepted_once c.books.inside.system c.run_system.new.system outcomes c.books.invariant) (leads g c))

pub returns-clause-one_reply : goal.returns-clause-one_reply
returns-clause-one_reply g c = c.accepted_once.ensures.one_reply c.run_system.new.system (reached g c)

pub returns-clause-accepted_is_kept : goal.returns-clause-accepted_is_kept
returns-clause-accepted_is_kept g c = c.accepted_once.ensures.accepted_is_kept c.run_system.new.system (reached g c)

pub returns-clause-own_key_of_replies : goal.returns-clause-own_key_of_replies
returns-clause-own_key_of_replies g c = c.own_key_of_replies.ensures c.run_system.new.system (reached g c)

pub returns-clause-refused_as_used_or_full : goal.returns-clause-refused_as_used_or_full
returns-clause-refused_as_used_or_full g c =
    gained_so _ _ c.args.out.now.items c.run_system.new.out.items (λ outcomes. c.refusals.ensures c.books.inside.system c.run_system.new.system outcomes c.books.invariant) (leads g c)

pub returns-clause-completed_by_host : goal.returns-clause-completed_by_host
returns-clause-completed_by_host g c =
    rw (← c.books.view_is) (gained_so _ _ c.args.out.now.items c.run_system.new.out.items (λ outcomes. c.completed_by_host.ensures.completed_by_host c.books.inside.system c.run_system.new.system outcomes c.books.invariant) (leads g c))

pub returns-clause-known_from_host : goal.returns-clause-known_from_host
returns-clause-known_from_host g c = c.completed_by_host.ensures.known_from_host c.run_system.new.system (reached g c)

pub returns-clause-sound : goal.returns-clause-sound
returns-clause-sound g c =
    let led = leads g c in
    rw (← c.books.view_is) (λ sound. c.calm_stores.ensures.sound c.books.inside.system c.run_system.new.system led.outcomes c.books.invariant sound led.holds)

pub returns-clause-no_damage : goal.returns-clause-no_damage
returns-clause-no_damage g c =
    rw (← c.books.view_is) (λ sound. gained_so _ _ c.args.out.now.items c.run_system.new.out.items
    (λ outcomes. c.calm_stores.ensures.no_damage c.books.inside.system c.run_system.new.system outcomes c.books.invariant sound) (leads g c))

pub returns-clause-calm : goal.returns-clause-calm
returns-clause-calm g c =
    rw (← c.books.view_is) (λ end calm. gained_so _ _ c.args.out.now.items c.run_system.new.out.items
    (λ outcomes. c.calm_stores.ensures.calm end c.books.inside.system c.run_system.new.system outcomes c.books.invariant calm) (leads g c))

pub returns-clause-once_armed : goal.returns-clause-once_armed
returns-clause-once_armed g c =
    rw (← c.books.view_is) (λ end calm. gained_so _ _ c.args.out.now.items c.run_system.new.out.items
    (λ outcomes. c.calm_stores.ensures.once_armed end c.books.inside.system c.run_system.new.system outcomes c.books.invariant calm) (leads g c))
