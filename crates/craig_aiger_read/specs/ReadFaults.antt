-- How the errors of reading stand for the faults of a text.
use Rattle.std.specs.Prelude.{◌≡◌, Option, Some, None, Result, Ok, Err}
use Rattle.craig_spec.specs.AigerFault.{Fault, FaultKind}
use Rattle.craig_aiger_read.specs.declared.aiger_error.AigerError.{AigerError}
use Rattle.craig_aiger_read.specs.declared.aiger_error.AigerError.TheVariants.{Header, Count, Unsupported, Truncated, Line, Literal, Twice, Reset, Delta, Symbol, Undefined, Cycle, NoMemory}

-- the fault that an error stands for, where it isn't want of memory
abbrev pub fault_of : AigerError → Option Fault
fault_of (Header offset) = Some (record { kind = FaultKind.Header; offset = offset })
fault_of (Count offset) = Some (record { kind = FaultKind.Count; offset = offset })
fault_of (Unsupported offset) = Some (record { kind = FaultKind.Unsupported; offset = offset })
fault_of (Truncated offset) = Some (record { kind = FaultKind.Truncated; offset = offset })
fault_of (Line offset) = Some (record { kind = FaultKind.Line; offset = offset })
fault_of (Literal offset) = Some (record { kind = FaultKind.Literal; offset = offset })
fault_of (Twice offset) = Some (record { kind = FaultKind.Twice; offset = offset })
fault_of (Reset offset) = Some (record { kind = FaultKind.Reset; offset = offset })
fault_of (Delta offset) = Some (record { kind = FaultKind.Delta; offset = offset })
fault_of (Symbol offset) = Some (record { kind = FaultKind.Symbol; offset = offset })
fault_of (Undefined offset) = Some (record { kind = FaultKind.Undefined; offset = offset })
fault_of (Cycle offset) = Some (record { kind = FaultKind.Cycle; offset = offset })
fault_of (NoMemory e) = None

-- reading gives the fault, where there is one
abbrev pub FailsBy : {Y : Type 0} → Option Fault → Result Y Fault → Type 0
FailsBy None read = Unit {0}
FailsBy (Some f) read = read ≡ Err f

-- an error is the fault that reading gives, unless memory ran out
abbrev pub IsFaultOf : {Y : Type 0} → AigerError → Result Y Fault → Type 0
IsFaultOf e read = FailsBy (fault_of e) read

-- what was returned, as it is seen, is what reading gives, unless memory ran out
abbrev pub IsReadAs : {X Y : Type 0} → (X → Y) → Result X AigerError → Result Y Fault → Type 0
IsReadAs view (Ok x) read = read ≡ Ok (view x)
IsReadAs view (Err e) read = IsFaultOf e read
