use Rattle.std.proofs.Common.{map, take, string_bytes}
use Rattle.duk_host.specs.Serve.{supply}
use Rattle.duk_program.proofs.InputRead.{AreReadSoFar}
use Rattle.duk_program.proofs.references.read_texts.Given as goal

-- the secrets so far are read
abbrev pub invariant-loop-place : goal.invariant-loop-place
invariant-loop-place g l = AreReadSoFar (g.S.FileSystem.held l.fn.files) (map (λ entry. entry.text.now) (take l.place l.references.items)) (map string_bytes l.texts.items)
    (supply (g.R.Source.known l.fn.input) (g.R.Source.reads l.fn.input)) (supply (g.R.Source.known l.input) (g.R.Source.reads l.input)) l.input_is_read
