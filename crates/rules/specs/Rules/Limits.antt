-- The limits of a job file and of a run, and the bytes of a file's parts.
-- Assumes nothing.
use Rattle.std.specs.Prelude.{ℕ}

-- "At most 16,384 bytes; n 1 to 512, m 0 to 240, w 0 to 200, b 0 to 1,000,000."
abbrev pub max_bytes : ℕ
max_bytes = 16384

abbrev pub max_instructions : ℕ
max_instructions = 512

abbrev pub max_cells : ℕ
max_cells = 240

abbrev pub max_window : ℕ
max_window = 200

abbrev pub max_budget : ℕ
max_budget = 1000000

-- "An expression is a byte with its token count, 1 to 16"
abbrev pub max_tokens : ℕ
max_tokens = 16

-- F-4: "A store at m or above is now remembered, with its set, for up to 64 addresses"
abbrev pub max_entries : ℕ
max_entries = 64

-- F-7: "eight bytes, one per kind in kind order"; "Each entry must be 1 to 16."
abbrev pub kinds : ℕ
kinds = 8

abbrev pub min_cost : ℕ
min_cost = 1

abbrev pub max_cost : ℕ
max_cost = 16

-- "16 registers", "8 bytes each"; "32 bytes of public list"; "a trailer of 16 bytes"
abbrev pub registers_size : ℕ
registers_size = 128

abbrev pub list_size : ℕ
list_size = 32

abbrev pub trailer_size : ℕ
trailer_size = 16
