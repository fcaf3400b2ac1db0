-- The tables are proved of the rules: each side computes, from the bytes of the job files on.
-- Assumes nothing.
use Rattle.std.specs.Prelude.{◌≡◌, refl, length}
use Rattle.location.specs.Sets.{bit, has, none, only, either, inside, empty, single, union, subset, member}
use Rattle.rules.specs.Rules.Expressions.{after, held, sound, pushed, eval_on, top, eval, gathered, set_on, expr_set}
use Rattle.rules.specs.Rules.Instructions.{window_costs}
use Rattle.rules.specs.Rules.Firsts.{first_holding, firsts_from, firsts_of}
use Rattle.rules.specs.Rules.Outside.{recall, remember, remembers, overfull}
use Rattle.rules.specs.Rules.Plain.{at, put, own_from, first_state, values, end_place, fetch, loaded_from, stored_to, store_overfull, chosen, branch_to, exec}
use Rattle.rules.specs.Rules.Mispredicting.{remaining, lower, ordinary, new_window, opening, forward, rolling, expired, step_on, step, plain_step}
use Rattle.rules.specs.Rules.Loop.{ended, loop}
use Rattle.rules.specs.Rules.Runs.{gather, observed_set, note, note_unmade, over_on, over, fits, halt, run, first, blank, mispredicting_run, plain_run, judge, verdict}
use Rattle.rules.specs.Rules.Answers.{text}
use Rattle.rules.specs.Rules.JobFile.{little, word_of, byte, register, unary, binary, constant, token_of, token, tokens, expr, with_register, jump, branch, conditional, fields, instr, instruction, nothing_left, program, trailer_at, trailer, sized, limits, offsets, words_at, state_of, public_of, none_from, listed, job_of, program_of, finish, parse}
use Rattle.rules.specs.Rules.Costs.{entries_fit, costs_fit, tabled}
use Rattle.rules.specs.Rules.Calls.{trace_words, room, padded, entry_words, table_words, end_words, long_enough, written, areas_after, counts}
use Rattle.rules.specs.Rules.Calls.{run_report, run_refused, run_parsed, run_call, plain_report, plain_refused, plain_parsed, plain_call}
use Rattle.rules.specs.Rules.Pairs.{with_state, alike_from, same_words, same_trace, pair_word, pair_after, pair_refused, second_state_fits, pair_fits, pair_accepted, pair_tabled, pair_parsed, pair_call}
use Rattle.rules.specs.Rules.TestLoads.{next_word, new_words, new_state, own_run_alone, new_state_run, test_load_accepted, test_load_refused, state_fits}
use Rattle.rules.specs.Rules.TestLoads.{test_load_parsed, test_load_call}
use Rattle.rules.specs.Rules.Listing.{digits, decimal, line, number_line, kind_word, value_text, observation_line, trace_lines, location_text, members, set_line, summary, first_line, first_lines, answer_lines, listing_of, listing}
use Rattle.rules.specs.Rules.Encoding.{bytes_of, word_bytes}
use Rattle.rules.specs.Cases.Files.{trailer_bytes, file, lines, set_of, ran, unreported, reports, report_words, plain_ran, areas, pair_areas, front, last_at, last_table, plain_traces, given}
use Rattle.rules.specs.Cases.Files.{wanted, all_given, all_wanted}
use Rattle.rules.specs.Cases.Document01.{printed_program, barrier_program, nested_program, state, public, job, whole_trace, r01, r01m1, listing01, document01}
use Rattle.rules.specs.Cases.Readings.{secret_job, zero17, deep, inner, restoring, conditionally, twice, mixed, ending, operations, shift_by}
use Rattle.rules.specs.Cases.Readings.{costing, filled, readings, details, areas_left, listings}
use Rattle.rules.specs.Cases.TestLoads.{highest, from_one, from_highest, xorshift, chosen_state, leaking, leaked, longer, plain_first, new_states}
use Rattle.rules.specs.Cases.TestLoads.{unfinished, turned_away}
use Rattle.rules.specs.Cases.Outside.{entry, spilled, replacing, first_stored, stored_again, stored_inside, ordered, spilling, outside}
use Rattle.rules.specs.Cases.Outside.{at_the_edge, edge_end, outside_areas, counted_from, summands, filling, filling_seen, filling_shown}
use Rattle.rules.specs.Cases.Outside.{filling_lines, registers, locations, overfilling, outside_full}
use Rattle.rules.specs.Cases.Firsts.{by_the_branch, each_store, each_eighth, by_the_stores, firsts}
use Rattle.rules.specs.Cases.Costs.{heavy, light, following, kind_rows, each_kind, nothing_after, branches_and_barriers, table_refused, costs_refused}
use Rattle.rules.specs.Cases.Refusals as refusal
use Rattle.rules.specs.Cases.Refusals.{reads, number_of, read_numbers, wanted_numbers, skips, offsets_at, list_bit, refusals}
use Rattle.rules.specs.Cases.Operators.{computed, expected, high, all, boundaries}
use Rattle.rules.specs.Cases.Sets.{sets_of, three_sets, sets_given, thrice, sets_wanted, sets}

-- "S is 28, Q 188, the file 236 bytes."
pub printed_numbers : ((trailer (job 1 10 100)).state ≡ 28) × ((trailer (job 1 10 100)).list ≡ 188) × (length (job 1 10 100) ≡ 236)
unfolding bytes_of word_bytes trailer_bytes file printed_program state public job little trailer_at trailer
printed_numbers = (refl, refl, refl)

-- The operators at their boundaries.
pub operators_hold : computed boundaries ≡ expected boundaries
unfolding computed expected high all boundaries
operators_hold = refl

-- The sets of expressions, ahead of their values and with them.
pub sets-hold : sets_given sets ≡ sets_wanted sets
unfolding sets_of three_sets sets_given thrice sets_wanted sets all little word_of byte unary binary constant token_of token tokens pushed eval_on top
    eval gathered set_on expr_set empty none union either
sets-hold = refl

-- The cases that document 01 marks (P), as one table; our own rows; and the refusals.
pub record TablesHold : Type 0 where
  pub cases_of_document01 : all_given document01 ≡ all_wanted document01
  pub cases_of_readings : all_given readings ≡ all_wanted readings
  pub cases_of_details : all_given details ≡ all_wanted details
  pub cases_of_areas : all_given areas_left ≡ all_wanted areas_left
  pub cases_of_listings : all_given listings ≡ all_wanted listings
  pub cases_of_xorshift : all_given xorshift ≡ all_wanted xorshift
  pub cases_of_new_states : all_given new_states ≡ all_wanted new_states
  pub cases_of_unfinished : all_given unfinished ≡ all_wanted unfinished
  pub cases_of_turned_away : all_given turned_away ≡ all_wanted turned_away
  pub cases_of_outside : all_given outside ≡ all_wanted outside
  pub cases_of_outside_areas : all_given outside_areas ≡ all_wanted outside_areas
  pub cases_of_outside_full : all_given outside_full ≡ all_wanted outside_full
  pub cases_of_firsts : all_given firsts ≡ all_wanted firsts
  pub cases_of_each_kind : all_given each_kind ≡ all_wanted each_kind
  pub cases_of_branches_and_barriers : all_given branches_and_barriers ≡ all_wanted branches_and_barriers
  pub cases_of_costs_refused : all_given costs_refused ≡ all_wanted costs_refused
  pub cases_of_refusals : read_numbers refusals ≡ wanted_numbers refusals

-- every definition that the tables compute with: a proof that unfolds this unfolds them all
unfoldable computing : Type 0
unfolding bit has none only either inside empty single union subset member after held sound pushed eval_on top eval window_costs
    recall remember remembers overfull at put own_from first_state values end_place fetch loaded_from stored_to store_overfull chosen
    branch_to exec remaining lower ordinary new_window opening forward rolling expired step_on step plain_step ended loop gather
    first_holding firsts_from firsts_of observed_set note note_unmade over_on over fits halt run first blank mispredicting_run plain_run judge verdict text little word_of byte
    register unary binary constant token_of token tokens expr with_register jump branch conditional fields instr instruction
    nothing_left program trailer_at trailer sized limits offsets words_at state_of public_of none_from listed job_of program_of finish
    parse trace_words room padded entry_words table_words end_words long_enough written areas_after counts run_report run_refused
    run_parsed run_call plain_report plain_refused plain_parsed plain_call with_state alike_from same_words same_trace pair_word pair_after
    pair_refused second_state_fits pair_fits pair_accepted pair_tabled pair_parsed pair_call entries_fit costs_fit tabled digits decimal line number_line kind_word value_text
    observation_line trace_lines location_text members set_line summary first_line first_lines answer_lines listing_of listing bytes_of word_bytes trailer_bytes
    file lines set_of ran unreported reports report_words plain_ran areas pair_areas front last_at last_table plain_traces given wanted all_given all_wanted
    printed_program barrier_program nested_program state public job whole_trace r01 r01m1 listing01 document01 secret_job zero17 deep
    inner restoring conditionally twice mixed ending operations shift_by costing filled readings details areas_left listings reads
    number_of read_numbers wanted_numbers skips offsets_at list_bit refusals refusal.program next_word new_words new_state own_run_alone
    new_state_run test_load_accepted test_load_refused state_fits test_load_parsed test_load_call highest from_one from_highest xorshift
    chosen_state leaking leaked longer plain_first new_states unfinished turned_away entry spilled replacing first_stored stored_again
    stored_inside ordered spilling outside at_the_edge edge_end outside_areas counted_from summands filling filling_seen filling_shown
    filling_lines registers locations overfilling outside_full by_the_branch each_store each_eighth by_the_stores firsts
    heavy light following kind_rows each_kind nothing_after branches_and_barriers table_refused costs_refused
computing = Unit {0}

document01-hold : all_given document01 ≡ all_wanted document01
unfolding computing
document01-hold = refl

readings-hold : all_given readings ≡ all_wanted readings
unfolding computing
readings-hold = refl

details-hold : all_given details ≡ all_wanted details
unfolding computing
details-hold = refl

areas-left_hold : all_given areas_left ≡ all_wanted areas_left
unfolding computing
areas-left_hold = refl

listings-hold : all_given listings ≡ all_wanted listings
unfolding computing
listings-hold = refl

xorshift-hold : all_given xorshift ≡ all_wanted xorshift
unfolding computing
xorshift-hold = refl

new-states_hold : all_given new_states ≡ all_wanted new_states
unfolding computing
new-states_hold = refl

unfinished-hold : all_given unfinished ≡ all_wanted unfinished
unfolding computing
unfinished-hold = refl

turned_away-hold : all_given turned_away ≡ all_wanted turned_away
unfolding computing
turned_away-hold = refl

outside-hold : all_given outside ≡ all_wanted outside
unfolding computing
outside-hold = refl

outside-areas_hold : all_given outside_areas ≡ all_wanted outside_areas
unfolding computing
outside-areas_hold = refl

outside-full_hold : all_given outside_full ≡ all_wanted outside_full
unfolding computing
outside-full_hold = refl

firsts-hold : all_given firsts ≡ all_wanted firsts
unfolding computing
firsts-hold = refl

each-kind_hold : all_given each_kind ≡ all_wanted each_kind
unfolding computing
each-kind_hold = refl

branches-and_barriers_hold : all_given branches_and_barriers ≡ all_wanted branches_and_barriers
unfolding computing
branches-and_barriers_hold = refl

costs-refused_hold : all_given costs_refused ≡ all_wanted costs_refused
unfolding computing
costs-refused_hold = refl

refusals-hold : read_numbers refusals ≡ wanted_numbers refusals
unfolding computing
refusals-hold = refl

pub tables_hold : TablesHold
tables_hold = record {
  cases_of_document01 = document01-hold;
  cases_of_readings = readings-hold;
  cases_of_details = details-hold;
  cases_of_areas = areas-left_hold;
  cases_of_listings = listings-hold;
  cases_of_xorshift = xorshift-hold;
  cases_of_new_states = new-states_hold;
  cases_of_unfinished = unfinished-hold;
  cases_of_turned_away = turned_away-hold;
  cases_of_outside = outside-hold;
  cases_of_outside_areas = outside-areas_hold;
  cases_of_outside_full = outside-full_hold;
  cases_of_firsts = firsts-hold;
  cases_of_each_kind = each-kind_hold;
  cases_of_branches_and_barriers = branches-and_barriers_hold;
  cases_of_costs_refused = costs-refused_hold;
  cases_of_refusals = refusals-hold;
}
