-- What the call that reads answers.
use Rattle.std.proofs.Common.{◌≡◌, ◌≢◌, ℕ, List, take, drop, Some, Result, Ok, Err, ap, sym, ◌∙◌}
use Rattle.std.specs.Prelude.{IsErrAnd}
use Rattle.vt_outside.specs.Readings.{Agrees}
use Rattle.vt_bytes.specs.Memory.{Memory, IsMemory, IsRam, at}
use Rattle.memory_dump.specs.Dump.{dump}
use Rattle.guest_memory.specs.Bytes.{HoldsBytes}
use Rattle.guest_memory.specs.Touched.{HeldMemory}
use Rattle.memory_dump.specs.Reading.{behind_so, header_of, read_so, reported}
use Rattle.memory_dump.specs.declared.header.Header.{Header}
use Rattle.memory_dump.specs.declared.fault.DumpFault.{DumpFault}
use Rattle.memory_dump.specs.declared.fault.DumpFault.TheVariants.{BadHeader, BadLine, OutOfOrder, AllFill, NotRam, Truncated, OutOfMemory}
use Rattle.memory_dump.proofs.Faults.{never_want}
use Rattle.memory_dump.proofs.PutRows.{is_blank}
use Rattle.memory_dump.proofs.ReadAgain.{text_read}
use Rattle.memory_dump.proofs.Said.{read-header}

gives_fault : (fault : DumpFault) (read : Result Memory DumpFault) → read ≡ Err fault
    → Agrees {Value = HeldMemory} reported (λ held. held.memory) (Err fault) read
gives_fault BadHeader read is = is
gives_fault (BadLine number) read is = is
gives_fault (OutOfOrder number) read is = is
gives_fault (AllFill number) read is = is
gives_fault (NotRam number) read is = is
gives_fault Truncated read is = is
gives_fault OutOfMemory read is = tt

-- a fault that is handed on is what reading gives
pub handed : (result : Result HeldMemory DumpFault) (read : Result Memory DumpFault) (fault : DumpFault) → IsErrAnd result (λ e. e ≡ fault)
    → read ≡ Err fault → Agrees reported (λ held. held.memory) result read
handed (Ok m) read fault is same = absurd is
handed (Err e) read fault is same = gives_fault e read (same ∙ ap (λ (f : DumpFault). Err f) (sym is))

-- nor is it want of memory
pub not_want : (result : Result HeldMemory DumpFault) (bytes : List ℕ) (fault : DumpFault) → IsErrAnd result (λ e. e ≡ fault)
    → read_so bytes ≡ Err fault → result ≢ Err OutOfMemory
not_want (Ok m) bytes fault is same = absurd is
not_want (Err e) bytes fault is same = λ want. let read : read_so bytes ≡ Err OutOfMemory = cc in never_want bytes read

-- and comes of no text
pub no_text : (result : Result HeldMemory DumpFault) (bytes : List ℕ) (fault : DumpFault) (m : Memory) → IsMemory m → HoldsBytes m → dump m ≡ bytes
    → read_so bytes ≡ Err fault → Agrees reported (λ held. held.memory) result (Ok m)
no_text result bytes fault m lawful holds is same =
    let both : Ok m ≡ Err fault = sym (text_read bytes m lawful holds is) ∙ same in
    absurd (cc)

-- what stands behind the first line is read into the memory that was begun
pub begun : (bytes text : List ℕ) (header : Header) (m : Memory) → header_of (take 21 bytes) ≡ Some header → text ≡ drop 21 bytes → IsMemory m
    → m.top ≡ header.top → m.fill ≡ header.fill → ((a : ℕ) → IsRam header.top a → at m a ≡ header.fill) → read_so bytes ≡ behind_so m 2 0 text
begun bytes text header m is behind lawful top fill all =
    read-header bytes header is ∙ ap (λ (n : Memory). behind_so n 2 0 (drop 21 bytes)) (sym (is_blank m header.top header.fill lawful top fill all))
    ∙ ap (behind_so m 2 0) (sym behind)

-- a memory that is read is the one of the text
pub read_so_only : (bytes : List ℕ) (out m : Memory) → read_so bytes ≡ Ok out → IsMemory m → HoldsBytes m → dump m ≡ bytes
    → ◌≡◌ {A = Result Memory DumpFault} (Ok m) (Ok out)
read_so_only bytes out m read lawful holds is = sym (text_read bytes m lawful holds is) ∙ read
