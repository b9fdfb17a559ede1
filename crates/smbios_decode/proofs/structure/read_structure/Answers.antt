use Rattle.std.proofs.Common.{Ok, ap, refl, inr}
use Rattle.smbios_decode.proofs.Headed.{IsHeaded, headed_of, truncated, found_of, names_no_string, whole_of}
use Rattle.smbios_decode.proofs.structure.read_structure.Goals as goal

pub returns-in_default-clause-fault : goal.returns-in_default-clause-fault
returns-in_default-clause-fault c =
    let bytes = c.args.bytes.now in
    let header = c.in_ok-header.header in
    let headed : IsHeaded bytes header.number c.from-length.result header.handle =
    headed_of bytes header.number header.length header.handle c.from-length.result c.in_ok-header.ensures.begins c.from-length.ensures
    c.if-bytes-length.false in
    inr (truncated c.args.place bytes header.number c.from-length.result header.handle headed (c.in_ok-strings.ensures.none (ap Ok c.in_default.is)))

pub returns-in-Ok-clause-found : goal.returns-in-Ok-clause-found
returns-in-Ok-clause-found c =
    let bytes = c.args.bytes.now in
    let header = c.in_ok-header.header in
    let headed : IsHeaded bytes header.number c.from-length.result header.handle =
    headed_of bytes header.number header.length header.handle c.from-length.result c.in_ok-header.ensures.begins c.from-length.ensures
    c.if-bytes-length.false in
    let found = rw c.in-Some.is at c.in_ok-strings.ensures.found in
    found_of bytes header.number c.from-length.result header.handle c.in-Some.strings.size c.in-Ok.body _ c.in-Some.strings.texts found.2 headed
    c.in_ok-header.ensures.fits found.0 found.1 found.3 c.in-Ok.ensures refl

pub returns-in-Err-NoSuchString-clause-fault : goal.returns-in-Err-NoSuchString-clause-fault
returns-in-Err-NoSuchString-clause-fault c =
    let bytes = c.args.bytes.now in
    let header = c.in_ok-header.header in
    let headed : IsHeaded bytes header.number c.from-length.result header.handle =
    headed_of bytes header.number header.length header.handle c.from-length.result c.in_ok-header.ensures.begins c.from-length.ensures
    c.if-bytes-length.false in
    let found = rw c.in-Some.is at c.in_ok-strings.ensures.found in
    let missing = rw c.in-Err-NoSuchString.field-0-is at c.in-Err-NoSuchString.ensures in
    rw c.in-Err-NoSuchString.number-is
    (inr (
      refl,
      names_no_string bytes header.number c.from-length.result header.handle c.in-Some.strings.texts found.2 c.in-Err-NoSuchString.number
          headed found.0 found.3 missing,
    ))

pub returns-in_err-strings-clause-no_memory : goal.returns-in_err-strings-clause-no_memory
returns-in_err-strings-clause-no_memory c =
    let bytes = c.args.bytes.now in
    let header = c.in_ok-header.header in
    let headed : IsHeaded bytes header.number c.from-length.result header.handle =
    headed_of bytes header.number header.length header.handle c.from-length.result c.in_ok-header.ensures.begins c.from-length.ensures
    c.if-bytes-length.false in
    let strings = c.in_err-strings.ensures.no_memory in
    λ want. whole_of bytes header.number c.from-length.result header.handle strings.0 strings.1 headed strings.2 strings.3

pub returns-in-Err-OutOfMemory-clause-no_memory : goal.returns-in-Err-OutOfMemory-clause-no_memory
returns-in-Err-OutOfMemory-clause-no_memory c =
    let bytes = c.args.bytes.now in
    let header = c.in_ok-header.header in
    let headed : IsHeaded bytes header.number c.from-length.result header.handle =
    headed_of bytes header.number header.length header.handle c.from-length.result c.in_ok-header.ensures.begins c.from-length.ensures
    c.if-bytes-length.false in
    let found = rw c.in-Some.is at c.in_ok-strings.ensures.found in
    λ want. whole_of bytes header.number c.from-length.result header.handle c.in-Some.strings.texts found.2 headed found.0 found.3
