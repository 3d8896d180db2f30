use Rattle.std.proofs.Common.{◌∙◌}
use Rattle.duk_store.proofs.SlotBytes.{range_is_slot}
use Rattle.duk_store.proofs.slot_steps.read_slot.Goals as goal

pub returns-clause-read : goal.returns-clause-read
returns-clause-read g c =
    let disk = g.D.Disk.meaning.state_of c.args.disk.now in
    record {
      nature = c.read_at.ensures.nature;
      no_failure = c.in_ok-read_at.ensures.no_failure;
      bytes = c.read_at.ensures.bytes;
      says = λ h.
          let size = g.D.Disk.leaves_its_size c.args.disk.now h disk.reads (g.D.Disk.reads_may_stay c.args.disk.now h) ∙ c.requires in
          rw (← range_is_slot c.args.place c.commit.result c.commit.ensures disk.reads size, ← c.in_ok-read_at.ensures.read h) c.of_bytes.ensures;
    }
