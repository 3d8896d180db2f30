-- One word of the walk: an argument that is no option, and the name of an option.
use Rattle.std.proofs.Common.{◌≡◌, ◌∷◌, ◌==◌, [], None, Some, arith, bytes_eq, false, refl}
use Rattle.clap.specs.Lexer.{long_of, short_of}
use Rattle.clap.specs.Walk.{Held, Step, Text, Waiting, Walk, after_step, arg_by_long, idle, long_word, option, plain_word, positional, subcommand_met, walked}
use Rattle.clap.specs.Faults.{long_fault, step_fault, turn_fault}
use Rattle.clap.specs.Simple.{Shape}
use Rattle.duk_program.specs.Written.{IsPlainArgument, option_named}

no_hyphens : (word : Text) → IsPlainArgument word → bytes_eq word (45 ∷ 45 ∷ []) ≡ false
no_hyphens [] plain = refl
no_hyphens (x ∷ rest) plain = let other : (x == 45) ≡ false = grind arith in rw other refl

no_long : (word : Text) → IsPlainArgument word → long_of word ≡ None
no_long [] plain = refl
no_long (x ∷ rest) plain = let other : (x == 45) ≡ false = grind arith in rw other refl

no_short : (word : Text) → IsPlainArgument word → short_of word ≡ None
no_short [] plain = refl
no_short (x ∷ rest) plain = let other : (x == 45) ≡ false = grind arith in rw other refl

no_subcommand : (waiting : Waiting) (word : Text) → subcommand_met [] waiting word ≡ None
no_subcommand idle word = refl
no_subcommand (option id) word = refl
no_subcommand positional word = refl

-- the walk goes on, and reads options
pub record GoesOn (w : Walk) : Type 0 where
  pub goes : w.stopped ≡ None
  pub reads : w.is_trailing ≡ false

abbrev pub going_on : Walk → Walk
going_on w = record w { is_trailing = false; stopped = None }

-- the word leads there, without a fault
pub record Leads (s : Shape) (w : Walk) (word : Text) (v : Walk) : Type 0 where
  pub walks : walked s.rules [] w word ≡ v
  pub quiet : turn_fault s [] w word ≡ []

-- a word that is plain is a value
pub plain_leads : (s : Shape) (w v : Walk) (word : Text) → GoesOn w → IsPlainArgument word
    → (step : Held × Step) → plain_word s.rules w.waiting word w.held ≡ step
    → after_step s.rules word (going_on w) step.0 step.1 ≡ v → step_fault s w.position step.0 step.1 ≡ []
    → Leads s w word v
unfolding walked
plain_leads s w v word on plain step met next quiet = record {
  walks = rw (
    on.goes,
    on.reads,
    no_subcommand w.waiting word,
    no_hyphens word plain,
    no_long word plain,
    no_short word plain,
    met,
  ) next;
  quiet = rw (
    on.goes,
    on.reads,
    no_subcommand w.waiting word,
    no_hyphens word plain,
    no_long word plain,
    no_short word plain,
    met,
  ) quiet;
}

-- `--name`, and nothing else
pub record IsOption (name : Text) : Type 0 where
  pub long : long_of (option_named name) ≡ Some (name, None)
  pub not_end : bytes_eq (option_named name) (45 ∷ 45 ∷ []) ≡ false

pub option_leads : (s : Shape) (w v : Walk) (name : Text) → GoesOn w → IsOption name
    → (step : Held × Step) → long_word s.rules w.waiting (option_named name) name None w.held ≡ step
    → after_step s.rules (option_named name) (going_on w) step.0 step.1 ≡ v
    → long_fault s.rules s.args_override_self (arg_by_long s.rules name) None w.held ≡ []
    → step_fault s w.position step.0 step.1 ≡ [] → Leads s w (option_named name) v
unfolding walked
option_leads s w v name on is step met next quiet after = record {
  walks = rw (on.goes, on.reads, no_subcommand w.waiting (option_named name), is.not_end, is.long, met) next;
  quiet = rw (on.goes, on.reads, no_subcommand w.waiting (option_named name), is.not_end, is.long, quiet, met) after;
}
