-- The words of keys and roots, which stand with the places.
pub use Rattle.lot_places.specs.Places.{empty_places, has_key, root_at, with_root, spaced}
