use Rattle.duk_store.proofs.LogRecords.{log_finds, log_keeps, log_sound}
use Rattle.duk_store.proofs.laws.log_states.Goals as goal

pub returns : goal.returns
returns g c =
    let disk = g.D.Disk.meaning.state_of c.args._disk.now in
    record { found = log_finds disk; size = λ sound. sound.size; each_keeps = log_keeps disk; sound = log_sound disk }
