-- The entries of processors, one more at a time.
use Rattle.std.proofs.Common.{◌≡◌, ℕ, zero, suc, ◌+◌, ◌<◌, List, [], ◌∷◌, ◌++◌, length, map, take, get_or, arith, ap, sym, ◌∙◌, append_assoc}
use Rattle.std.specs.List.{enumerate_from}
use Rattle.machine_desc.specs.declared.acpi_parts.Cpu.{Cpu}
use Rattle.acpi_records.specs.declared.madt_entry.MadtEntry.{MadtEntry}
use Rattle.acpi_model.specs.MachineMadt.{cpu_entry, cpu_entries}

entries_from : ℕ → List Cpu → List MadtEntry
entries_from position cpus = map cpu_entry (enumerate_from position cpus)

entries_more : (from : ℕ) (cpus : List Cpu) (k : ℕ) (other : Cpu) → k < length cpus
    → entries_from from (take (k + 1) cpus) ≡ entries_from from (take k cpus) ++ cpu_entry (from + k, get_or cpus k other) ∷ []
unfolding entries_from
entries_more from [] k other l = absurd (omega arith)
entries_more from (c ∷ cpus) zero other l =
    let place : from ≡ from + 0 = omega arith in
    ap (λ n. cpu_entry (n, c) ∷ []) place
entries_more from (c ∷ cpus) (suc k) other l =
    let count : suc k + 1 ≡ suc (k + 1) = omega arith in
    let place : from + 1 + k ≡ from + suc k = omega arith in
    ap (λ n. entries_from from (take n (c ∷ cpus))) count
    ∙ ap (λ more. cpu_entry (from, c) ∷ more) (entries_more (from + 1) cpus k other (omega arith))
    ∙ ap (λ n. entries_from from (take (suc k) (c ∷ cpus)) ++ cpu_entry (n, get_or cpus k other) ∷ []) place

-- behind those before it, the entry of the next processor
pub cpus_pushed : (old seen new : List MadtEntry) (cpus : List Cpu) (k : ℕ) (other : Cpu) (entry : MadtEntry) → k < length cpus
    → seen ≡ old ++ cpu_entries (take k cpus) → entry ≡ cpu_entry (k, get_or cpus k other) → new ≡ seen ++ entry ∷ []
    → new ≡ old ++ cpu_entries (take (k + 1) cpus)
unfolding entries_from
cpus_pushed old seen new cpus k other entry below was entry_is is =
    let place : 0 + k ≡ k = omega arith in
    is ∙ ap (λ e. seen ++ e ∷ []) entry_is ∙ ap (λ those. those ++ cpu_entry (k, get_or cpus k other) ∷ []) was
    ∙ append_assoc old (cpu_entries (take k cpus)) (cpu_entry (k, get_or cpus k other) ∷ [])
    ∙ ap (λ more. old ++ more) (ap (λ n. cpu_entries (take k cpus) ++ cpu_entry (n, get_or cpus k other) ∷ []) (sym place)
    ∙ sym (entries_more 0 cpus k other below))
