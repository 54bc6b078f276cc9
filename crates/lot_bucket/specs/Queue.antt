-- The words of lines and queues, which stand with the queue.
pub use Rattle.lot_places.specs.Queue.{line_of, without_count, without_first, without_key, first_of}
