-- Where the place of a key is: what is cited above, of the laws that stand with the places.
pub use Rattle.lot_places.proofs.Slots.{even_place, even_without, rootless, rootless_empty, length-spaced, even_spaced}
