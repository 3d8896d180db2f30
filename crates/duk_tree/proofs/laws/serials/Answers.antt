use Rattle.duk_tree.proofs.SerialBytes.{length-serial_bytes, serial_bytes_fit, serial_of_bytes-serial_bytes, serial_bytes-serial_of_bytes, IsSerial-serial_of_bytes}
use Rattle.duk_tree.proofs.laws.serials.Goals as goal

pub returns-clause-ten : goal.returns-clause-ten
returns-clause-ten c = length-serial_bytes

pub returns-clause-are_bytes : goal.returns-clause-are_bytes
returns-clause-are_bytes c = serial_bytes_fit

pub returns-clause-found : goal.returns-clause-found
returns-clause-found c = serial_of_bytes-serial_bytes

pub returns-clause-written : goal.returns-clause-written
returns-clause-written c = serial_bytes-serial_of_bytes

pub returns-clause-serial : goal.returns-clause-serial
returns-clause-serial c = IsSerial-serial_of_bytes
