-- A shared loan of the places is made of a borrow of them, can be copied, and can be cut short.
use base.Fml.{Incl-refl}
use denote.Struct.Lending.{of_Lends}
use Rattle.raw_frames.specs.contracts.places.Places as P
use Rattle.raw_frames.proofs.places.Places.TheLaw.Statement.{statement}
use Rattle.raw_frames.proofs.Bytes.{frame_laws}
use Rattle.raw_frames.proofs.Sharing.{block-keeps, block-made}

pub shares : statement
shares = of_Lends P.struct P.the_codes P.the_heap P.the_lent (λ places first. block-keeps frame_laws places.at places.slots) tt
    (λ M 𝓤 𝓛 places first. block-made frame_laws 𝓛 P.the_row.lives (Incl-refl P.the_row.lives) places.at places.slots)
