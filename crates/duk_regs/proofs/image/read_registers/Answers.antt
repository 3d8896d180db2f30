use Rattle.std.proofs.Common.{◌+◌, ◌*◌, ℕ, take, drop, arith}
use Rattle.std.proofs.lemmas.List.FromFn.{fill_by_all}
use Rattle.duk_regs.specs.Registers.{empty_register}
use Rattle.duk_regs.specs.Image.{registers_in}
use Rattle.duk_regs.proofs.image.read_registers.Goals as goal

pub returns : goal.returns
unfolding registers_in
returns c =
    fill_by_all (λ (place : ℕ). take 16 (drop (14 + 16 * place) c.args.image.now)) c.loop-place.registers 21 empty_register c.loop-place.invariant.are_21 (λ place within. c.loop-place.invariant.read place (omega arith))
