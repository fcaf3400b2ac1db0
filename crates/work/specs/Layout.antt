-- Where each part of the state stands in the working words: the first word of each. src/lib.rt has the same numbers as constants.
-- Assumes nothing.
use Rattle.std.specs.Prelude.{ℕ, ◌+◌, ◌-◌, ◌*◌}
use Rattle.location.specs.Sets.{limit}
use Rattle.rules.specs.Rules.Limits.{max_instructions, max_entries}

-- words 0 to 1604: operands of 5 words, each the four words of a set, then the value. Operands 0 to 255 are those of the locations, the
-- 64 after them those of the entries of the table outside the image. The value of the one after them is how many entries there are, so that
-- the log has that count as it has any operand.
abbrev pub operand_base : ℕ → ℕ
operand_base k = 5 * k

-- the place of the value in an operand
abbrev pub value_place : ℕ
value_place = 4

abbrev pub operands : ℕ
operands = limit + max_entries

-- word 1604: how many entries the table has; words 1605 to 1668: their addresses
abbrev pub entry_count : ℕ
entry_count = operand_base operands + value_place

abbrev pub address_base : ℕ → ℕ
address_base i = entry_count + 1 + i

-- words 1680 to 2885: the log of changes upwards, 6 words each: the number of an operand, then that operand as it was before
abbrev pub log_base : ℕ
log_base = 1680

abbrev pub change_base : ℕ → ℕ
change_base k = log_base + 6 * k

-- and the open branches downwards, 4 words each: id, target, what was left of the window of the branch below when it was opened (of
-- the first branch the window with nothing open), and the length of the log then. The first one stands 1202 words past the log's first;
-- no number brings one below that word.
abbrev pub first_branch : ℕ
first_branch = 1202

abbrev pub branch_base : ℕ → ℕ
branch_base k = log_base + (first_branch - 4 * k)

-- words 2886 to 3141: what is reported of each location, one word each; here the words of the machine end
abbrev pub reports : ℕ
reports = 2886

abbrev pub report_base : ℕ → ℕ
report_base l = reports + l

-- words 3576 to 4087: the word of each of 512 labels; words 1669 to 1679 and 3142 to 3575 are free
abbrev pub labels : ℕ
labels = 3576

abbrev pub label_base : ℕ → ℕ
label_base i = labels + i

-- words 4088 to 4095, behind those of the labels: the window cost of each kind of instruction, by the kind's number
abbrev pub cost_place : ℕ
cost_place = max_instructions

abbrev pub cost_base : ℕ
cost_base = labels + cost_place
