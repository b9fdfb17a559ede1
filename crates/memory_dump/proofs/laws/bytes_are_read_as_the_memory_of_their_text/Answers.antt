use Rattle.std.proofs.Common.{refl}
use Rattle.memory_dump.specs.Dump.{dump}
use Rattle.memory_dump.proofs.Faults.{never_want}
use Rattle.memory_dump.proofs.ReadAgain.{read_only, text_read}
use Rattle.memory_dump.proofs.laws.bytes_are_read_as_the_memory_of_their_text.Goals as goal

pub returns-clause-text : goal.returns-clause-text
returns-clause-text c = λ bytes m is. (read_only bytes m is).text

pub returns-clause-lawful : goal.returns-clause-lawful
returns-clause-lawful c = λ bytes m is. (read_only bytes m is).lawful

pub returns-clause-holds : goal.returns-clause-holds
returns-clause-holds c = λ bytes m is. (read_only bytes m is).holds

pub returns-clause-read : goal.returns-clause-read
returns-clause-read c = λ m lawful holds. text_read (dump m) m lawful holds refl

pub returns-clause-fault : goal.returns-clause-fault
returns-clause-fault c = never_want
