use Rattle.duk_journal.specs.Standing.{UseNewNumbers}
use Rattle.duk_journal_host.specs.Host.{host_meaning_of}
use Rattle.duk_journal_host.specs.Judged.{TellWhatIsKept}
use Rattle.duk_journal_host.proofs.LifetimeOfServices.{alike_in_lifetime, kept_in_lifetime}
use Rattle.duk_journal_host.proofs.RepliesOfServices.{AllAlike, HasAll, ReplyLaws, has_none, replies_kept_up, tells_kept_up}
use Rattle.duk_journal_host.proofs.UsableAgain.{new_kept_up}
use Rattle.duk_journal_host.proofs.laws.lifetimes.Given.{Over}
use Rattle.duk_journal_host.proofs.laws.lifetimes.Goals as goal
use Rattle.duk_journal_host.proofs.laws.lifetimes.Goals.{After-told_what_stands}

module _ (g : Over) (c : After-told_what_stands g) where
  replies : ReplyLaws
  replies = record {
    kept = c.one_reply.ensures.kept;
    longer = c.one_reply.ensures.longer;
    reversal_longer = c.one_reply.ensures.reversal_longer;
    equal = c.one_reply.ensures.equal;
    reversal_equal = c.one_reply.ensures.reversal_equal;
  }

pub returns-clause-alike : goal.returns-clause-alike
returns-clause-alike g c keys first last services life =
    let meaning = g.J.Journal.meaning in
    let all = alike_in_lifetime (host_meaning_of meaning g.I.Issuer.decides) keys (HasAll keys) AllAlike (replies_kept_up (replies g c) keys)
    (meaning.state_of first).found (meaning.state_of last).found services (λ entries found. has_none keys entries) life in
    (all.payments, all.reversals)

pub returns-clause-kept : goal.returns-clause-kept
returns-clause-kept g c keys first last services entries life found =
    let meaning = g.J.Journal.meaning in
    let all = kept_in_lifetime (host_meaning_of meaning g.I.Issuer.decides) keys (HasAll keys) AllAlike (replies_kept_up (replies g c) keys)
    (meaning.state_of first).found (meaning.state_of last).found services (λ entries found. has_none keys entries) life entries found in
    (all.payments, all.reversals)

pub returns-clause-told : goal.returns-clause-told
returns-clause-told g c keys first last services entries answer numbers state begins life found is_in tells =
    let meaning = g.J.Journal.meaning in
    let host = host_meaning_of meaning g.I.Issuer.decides in
    let all = kept_in_lifetime host keys (HasAll keys) AllAlike (replies_kept_up (replies g c) keys)
    (meaning.state_of first).found (meaning.state_of last).found services (λ entries found. has_none keys entries) life entries found in
    let tell = kept_in_lifetime host keys (λ answers entries. TellWhatIsKept entries) (λ answers. Unit {0}) (tells_kept_up keys c.told_what_stands.ensures.frames)
    (meaning.state_of first).found (meaning.state_of last).found services begins life entries found in
    c.told_what_stands.ensures.told keys entries numbers state answer tell (all.reversals answer numbers state is_in tells)

pub returns-clause-once : goal.returns-clause-once
returns-clause-once g c keys first last services begins life =
    let meaning = g.J.Journal.meaning in
    kept_in_lifetime (host_meaning_of meaning g.I.Issuer.decides) keys (λ answers entries. UseNewNumbers entries) (λ answers. Unit {0}) (new_kept_up keys c.new_numbers.ensures)
    (meaning.state_of first).found (meaning.state_of last).found services begins life

pub returns-clause-usable : goal.returns-clause-usable
returns-clause-usable g c keys first last services made begins life is_made sound =
    let all = returns-clause-once g c keys first last services begins life in
    record { honest = is_made.honest; sound = sound; usable = λ entries found. all entries (is_made.within entries found) }
