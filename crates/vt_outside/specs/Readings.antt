-- Readings: what a definition makes of bytes or of a document, part by part. A reading is a value, or the first fault.
use Rattle.std.specs.Prelude.{◌≡◌, Option, IfSome, Result, Ok, Err, MatchResult}

-- The value of this part is handed on to the next one. A fault ends the whole reading.
infixl 10 ◌into◌
abbrev pub ◌into◌ : {A B Fault : Type 0} → Result A Fault → (A → Result B Fault) → Result B Fault
(Ok value) into next = next value
(Err fault) into next = Err fault

-- A call's error told this fault, or none where memory ran out. If it told one, it is the reading's.
abbrev pub IsFaultOf : {Read Fault : Type 0} → Option Fault → Result Read Fault → Type 0
IsFaultOf told reading = IfSome told (λ fault. reading ≡ Err fault)

-- A call answered as the reading says, unless memory ran out: with the value that is read, as contracts see it, or with the fault.
-- `told` is the fault that an error of the call tells, or none of want of memory.
abbrev pub Agrees : {Value Error Read Fault : Type 0} → (Error → Option Fault) → (Value → Read) → Result Value Error → Result Read Fault → Type 0
Agrees told seen answer reading = MatchResult answer (λ value. reading ≡ Ok (seen value)) (λ error. IsFaultOf (told error) reading)
