-- The keys of names, which are numbers. No public contract speaks of it.
use Rattle.std.specs.Prelude.{ℕ, ◌+◌, ◌*◌, ◌%◌, ◌^◌, List}
use Rattle.std.specs.List.{fold}

-- The key of no bytes, which is the offset basis of the hash FNV-1a of 64 bits.
abbrev pub first_key : ℕ
first_key = 14695981039346656037

-- The key is multiplied at each byte by the prime of FNV-1a.
abbrev pub multiplier : ℕ
multiplier = 1099511628211

-- The key of some bytes and one more. It is cut to 64 bits.
abbrev pub next_key : ℕ → ℕ → ℕ
next_key key byte = ((key + byte) % 2 ^ 64 * multiplier) % 2 ^ 64

-- The key of a name is made of its bytes, one after another.
abbrev pub key_of : List ℕ → ℕ
key_of name = fold next_key first_key name
