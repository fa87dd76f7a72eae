-- Which cause of a command a fault of its input is.
use Rattle.mbj_text.specs.declared.fault.TextFault.{TextFault}
use Rattle.mbj_text.specs.declared.fault.TextFault.TheVariants as text_fault
use Rattle.mbjobs.specs.declared.cause.Cause.{Cause}
use Rattle.mbjobs.specs.declared.cause.Cause.TheVariants as cause
use Rattle.mbjobs.specs.declared.reading.ReadFault.{ReadFault}
use Rattle.mbjobs.specs.declared.reading.ReadFault.TheVariants as read_fault

abbrev pub cause_of_read : ReadFault → Cause
cause_of_read read_fault.Failed = cause.Read
cause_of_read read_fault.Over = cause.Bytes
cause_of_read read_fault.Memory = cause.Memory

abbrev pub cause_of_text : TextFault → Cause
cause_of_text (text_fault.Line line field) = cause.Line line field
cause_of_text (text_fault.Limit line) = cause.Jobs line
cause_of_text text_fault.Memory = cause.Memory
