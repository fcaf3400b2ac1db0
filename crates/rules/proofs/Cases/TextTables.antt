-- The tables of routines as text are proved of the rules: each side computes, from the bytes of texts and job files on.
-- Assumes nothing.
use Rattle.std.specs.Prelude.{◌≡◌, refl}
use Rattle.location.specs.Sets.{bit, has, member}
use Rattle.rules.specs.Rules.Expressions.{after, held, sound}
use Rattle.rules.specs.Rules.Instructions.{window_costs}
use Rattle.rules.specs.Rules.Answers.{text}
use Rattle.rules.specs.Rules.JobFile.{little, word_of, byte, register, unary, binary, constant, token_of, token, tokens, expr, with_register, jump}
use Rattle.rules.specs.Rules.JobFile.{branch, conditional, fields, instr, instruction, nothing_left, program, trailer_at, trailer, sized, limits}
use Rattle.rules.specs.Rules.JobFile.{offsets, words_at, state_of, public_of, none_from, listed, job_of, program_of, finish, parse}
use Rattle.rules.specs.Rules.Calls.{written}
use Rattle.rules.specs.Rules.Pairs.{same_words}
use Rattle.rules.specs.Rules.Listing.{digits, decimal}
use Rattle.rules.specs.Rules.Encoding.{bytes_of, tokens_bytes, expr_bytes, instr_bytes, program_bytes}
use Rattle.rules.specs.Rules.Parts.{in_name, lines_of, starts_name, byte_parts, parts}
use Rattle.rules.specs.Rules.TextReading as reader
use Rattle.rules.specs.Rules.TextReading.{instruction_words, called, sign_named, operator_named, place_among, digits_only, value_after, number_below}
use Rattle.rules.specs.Rules.TextReading.{constant_named, register_named, simple_named, expression, signed, operand, whole_operand, instr_named}
use Rattle.rules.specs.Rules.TextReading.{line_of, instructions_of, all_hold, program_holds, read_text}
use Rattle.rules.specs.Rules.TextPrinting.{register_text, signed_text, bracketed_text, text_pushed, text_on, top_text, expr_text, instr_text, program_text}
use Rattle.rules.specs.Rules.TextCalls.{output, read_program, read_call, print_parsed, print_call}
use Rattle.rules.specs.Rules.Encoding.{word_bytes}
use Rattle.rules.specs.Cases.Files.{trailer_bytes, file, lines}
use Rattle.rules.specs.Cases.Document01.{printed_program, state, public, job}
use Rattle.rules.specs.Cases.Readings.{filled}
use Rattle.rules.specs.Cases.Refusals as refusal
use Rattle.rules.specs.Cases.Refusals.{skips, offsets_at, list_bit}
use Rattle.rules.specs.Cases.Texts as cases
use Rattle.rules.specs.Cases.Texts.{given, wanted, all_given, all_wanted, outside, round_trips_line, repeated, set_bytes, operation, sum, text02}
use Rattle.rules.specs.Cases.Texts.{example02, words, field_rows, text_readings, nots, left_brackets, right_brackets, branch_before, long_line}
use Rattle.rules.specs.Cases.Texts.{text_bounds, text_areas}

-- every definition that the tables compute with: a proof that unfolds this unfolds them all
unfoldable computing : Type 0
unfolding bit has member after held sound window_costs text little word_of byte
    register unary binary constant token_of token tokens expr with_register jump branch conditional fields instr instruction nothing_left
    program trailer_at trailer sized limits offsets words_at state_of public_of none_from listed job_of program_of finish parse written
    same_words digits decimal bytes_of tokens_bytes expr_bytes instr_bytes program_bytes in_name lines_of starts_name byte_parts parts
    instruction_words called sign_named operator_named place_among digits_only value_after number_below constant_named register_named simple_named
    expression signed operand whole_operand reader.with_register reader.jump reader.branch reader.conditional reader.fields instr_named
    line_of instructions_of all_hold program_holds read_text register_text signed_text bracketed_text text_pushed text_on top_text expr_text
    instr_text program_text output read_program read_call print_parsed print_call word_bytes trailer_bytes file lines printed_program state
    public job refusal.program skips offsets_at list_bit filled given wanted all_given all_wanted cases.only cases.inside cases.constant
    outside round_trips_line repeated set_bytes operation sum text02 example02 words field_rows text_readings nots left_brackets right_brackets
    branch_before long_line text_bounds text_areas
computing = Unit {0}

-- Document 02's example; the words; the fields of a line; each reading of F-1; the bounds; the areas.
pub record TextTablesHold : Type 0 where
  pub cases_of_example02 : all_given example02 ≡ all_wanted example02
  pub cases_of_words : all_given words ≡ all_wanted words
  pub cases_of_fields : all_given field_rows ≡ all_wanted field_rows
  pub cases_of_text_readings : all_given text_readings ≡ all_wanted text_readings
  pub cases_of_text_bounds : all_given text_bounds ≡ all_wanted text_bounds
  pub cases_of_text_areas : all_given text_areas ≡ all_wanted text_areas

example02-hold : all_given example02 ≡ all_wanted example02
unfolding computing
example02-hold = refl

words-hold : all_given words ≡ all_wanted words
unfolding computing
words-hold = refl

fields-hold : all_given field_rows ≡ all_wanted field_rows
unfolding computing
fields-hold = refl

text-readings_hold : all_given text_readings ≡ all_wanted text_readings
unfolding computing
text-readings_hold = refl

text_bounds-hold : all_given text_bounds ≡ all_wanted text_bounds
unfolding computing
text_bounds-hold = refl

text-areas_hold : all_given text_areas ≡ all_wanted text_areas
unfolding computing
text-areas_hold = refl

pub text_tables_hold : TextTablesHold
text_tables_hold = record {
  cases_of_example02 = example02-hold;
  cases_of_words = words-hold;
  cases_of_fields = fields-hold;
  cases_of_text_readings = text-readings_hold;
  cases_of_text_bounds = text_bounds-hold;
  cases_of_text_areas = text-areas_hold;
}
