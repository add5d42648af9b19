-- Laws of errors that are passed on.
use Rattle.std.proofs.Common.{◌≡◌, ℕ, Option, Some, None, Result, Ok, Err}
use Rattle.std.specs.declared.alloc.AllocError.{AllocError}
use Rattle.std.specs.Prelude.{IfErr, IfOk}
use Rattle.std.specs.Result.{IsErrAnd}
use Rattle.craig_spec.specs.AigerFault.{Fault, FaultKind}
use Rattle.craig_spec.specs.AigerReading.{fault}
use Rattle.craig_aiger_read.specs.declared.aiger_error.AigerError.TheVariants.{NoMemory, Truncated}
use Rattle.craig_aiger_read.specs.ReadFaults.{FailsBy, IsFaultOf, IsReadAs, fault_of}
use Rattle.craig_aiger_read.specs.declared.aiger_error.AigerError.{AigerError}

-- a fault of one reading that is a fault of another
pub FailsBy-through : {X Y : Type 0} (o : Option Fault) (r : Result X Fault) (s : Result Y Fault) → ((f : Fault) → r ≡ Err f → s ≡ Err f) → FailsBy o r → FailsBy o s
FailsBy-through None r s through h = tt
FailsBy-through (Some f) r s through h = through f h

-- an error that is passed on as it is
pub error-passed : {X Y : Type 0} (view : X → Y) (r : Result X AigerError) (s : Result Y Fault) (y e : AigerError) → r ≡ Err y → y ≡ e → IsFaultOf e s → IsReadAs view r s
error-passed view r s y e is same h = rw (is, same) h

-- a fault of what a line is
pub line_error : {X Y Z : Type 0} (view : X → Y) (result : Result X AigerError) (found : Result Z Fault) (read : Result Y Fault) (y e : AigerError) →
    result ≡ Err y → y ≡ e → IsFaultOf e found → ((f : Fault) → found ≡ Err f → read ≡ Err f) → IsReadAs view result read
line_error view result found read y e is same h through = error-passed view result read y e is same (FailsBy-through (fault_of e) found read through h)

-- a line that is missing
pub truncated_error : {X Y : Type 0} (view : X → Y) (end : ℕ) (result : Result X AigerError) (read : Result Y Fault) (y e : AigerError) →
    result ≡ Err y → y ≡ e → e ≡ Truncated end → read ≡ fault FaultKind.Truncated end → IsReadAs view result read
truncated_error view end result read y e is same truncated h = rw (is, same, truncated) h

-- the same where a clause speaks of an error alone
pub IfErr-passed : {X : Type 0} (P : AigerError → Type 0) (r : Result X AigerError) (y e : AigerError) → r ≡ Err y → y ≡ e → P e → IfErr r P
IfErr-passed P r y e is same h = rw (is, same) h

-- a clause that speaks of a value alone
pub IfOk-passed : {X : Type 0} (P : X → Type 0) (r : Result X AigerError) (y : AigerError) → r ≡ Err y → IfOk r P
IfOk-passed P r y is = rw is tt

-- want of memory says nothing of what is read
pub memory_error : {X Y : Type 0} (view : X → Y) (r : Result X AigerError) (s : Result Y Fault) (a : AllocError) → IsErrAnd r (λ e. e ≡ NoMemory a) → IsReadAs view r s
memory_error view (Ok x) s a h = absurd h
memory_error view (Err e) s a h = rw h tt
