-- A queue is a list of pairs (thread, key), first come first. Threads of many keys wait in one queue.
use Rattle.std.specs.Prelude.{ℕ, zero, suc, ◌==◌, if◌then◌else◌, List, [], ◌∷◌, Option, Some, None}

-- the line of a key: the threads that wait on it, in order
abbrev pub line_of : ℕ → List (ℕ × ℕ) → List ℕ
line_of k [] = []
line_of k (p ∷ queue) = if p.1 == k then p.0 ∷ line_of k queue else line_of k queue

-- the queue without the first n pairs of the key, or without all where they are fewer; the others keep their order
abbrev pub without_count : ℕ → ℕ → List (ℕ × ℕ) → List (ℕ × ℕ)
without_count zero k queue = queue
without_count (suc n) k [] = []
without_count (suc n) k (p ∷ queue) = if p.1 == k then without_count n k queue else p ∷ without_count (suc n) k queue

-- the queue without the first pair of the key
abbrev pub without_first : ℕ → List (ℕ × ℕ) → List (ℕ × ℕ)
without_first k queue = without_count 1 k queue

-- the queue without the pairs of the key: without as many first ones as there are (law without_count-all)
abbrev pub without_key : ℕ → List (ℕ × ℕ) → List (ℕ × ℕ)
without_key k [] = []
without_key k (p ∷ queue) = if p.1 == k then without_key k queue else p ∷ without_key k queue

-- the first thread of a line
abbrev pub first_of : List ℕ → Option ℕ
first_of [] = None
first_of (t ∷ line) = Some t
