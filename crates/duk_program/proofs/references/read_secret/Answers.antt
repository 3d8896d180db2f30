use Rattle.std.proofs.Common.{◌≡◌, ℕ, List, Some, codes, sym, ap, ◌∙◌}
use Rattle.std.proofs.lemmas.Slice.Eq.{bytes_eq-Decides}
use Rattle.std.specs.Prelude.{Vec}
use Rattle.std.specs.declared.alloc.Global.{Global}
use Rattle.duk_host.specs.Serve.{Supply, supply}
use Rattle.duk_program.proofs.InputRead.{fault_through, input_no_text, input_unread}
use Rattle.duk_program.specs.Secrets.{reference_in}
use Rattle.duk_service.specs.declared.file_system.FileFault.{FileFault}
use Rattle.duk_program.specs.declared.secrets.SecretFault.{SecretFault}
use Rattle.duk_program.specs.inner.Secrets.{IsOnceUnread, IsReadOnce, IsSecretRefused, IsTextRefused, line_fault}
use Rattle.duk_program.proofs.references.read_secret.Goals as goal

pub returns-then-eq-clause-refused : goal.returns-then-eq-clause-refused
returns-then-eq-clause-refused g c =
    let held = g.S.FileSystem.held c.args.files.now in
    let was = c.args.input_is_read.now in
    let is = c.read_input_once-line.new.input_is_read in
    let before : Supply = supply (g.R.Source.known c.args.input.now) (g.R.Source.reads c.args.input.now) in
    let after : Supply = supply (g.R.Source.known c.read_input_once-line.new.input) (g.R.Source.reads c.read_input_once-line.new.input) in
    let secret = c.args.secret in
    let written = c.args.written.now in
    let dash : c.in-Some.path.now ≡ codes "-" = (bytes_eq-Decides c.in-Some.path.now (codes "-")).0 (sym c.eq.ensures ∙ c.if-eq.true) in
    let refers : reference_in written ≡ Some (codes "-") = sym c.in-Some.ensures ∙ ap (λ (p : List ℕ). Some p) dash in
    fault_through (λ (l : Vec ℕ Global). IsReadOnce was is before after l.items) (IsOnceUnread was before after)
    (λ (l : Vec ℕ Global) (e : SecretFault). IsTextRefused secret l.items e) (λ (f : FileFault) (e : SecretFault). e ≡ line_fault secret f)
    (IsSecretRefused held was before after secret written) c.text_of.result c.read_input_once-line.result
    c.text_of.ensures.refused c.read_input_once-line.ensures.read c.read_input_once-line.ensures.refused
    (λ l e told once. input_no_text held was is before after secret written l.items e refers once told)
    (λ f e told cause. input_unread held was before after secret written f e refers told cause)
