-- Where the words of a table lie: by the number of the key or of the thread alone, so that tables of all kinds agree.
-- Word 0 is spare, and nothing is ever stored to its line of the cache: each join and split of seats loads it, and so
-- does each move of a value.
use Rattle.std.specs.Prelude.{ℕ, ◌+◌, ◌*◌, max}

-- the word of a key: two words from one key to the next, and the first one past the line of the spare word
unfoldable pub word_at : ℕ → ℕ
word_at c = 2 * c + 8

-- the letter of a thread: the last word of a line, past the line of the first keys, which have no letter beside them
abbrev pub letter_at : ℕ → ℕ
letter_at t = 8 * t + 23

-- the words of a table of so many threads, in which the keys' numbers end before m
abbrev pub word_count : ℕ → ℕ → ℕ
word_count n m = max (2 * m) (8 * n + 8) + 8
