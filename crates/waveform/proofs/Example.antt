-- The example of document 01: the checker computes what is printed, and it is the printed text.
-- Assumes nothing.
use mathlib.Core.Path.{refl}
use mathlib.Core.List.{flatten, flat_map, zip_with}
use Rattle.lists.specs.Ladder.{first_no}
use Rattle.lists.specs.Tables.{tabulate_from, all_below}
use Rattle.method.specs.Kinds.{gate_fn, takes}
use Rattle.method.specs.Times.{gate_times}
use Rattle.method.specs.Frames.{frames_with, gate_frames}
use Rattle.method.specs.Traces.{raw_value, gate_trace}
use Rattle.method.specs.Once.{frames_once, traces_once}
use Rattle.method.specs.Words.{lane}
use Rattle.numbers.specs.Numbers.{number_at, word_at}
use Rattle.editions.specs.Edition.{delay_bytes}
use Rattle.editions.specs.File.{inputs_of, delay_at, fanins_of, kind_of, gate_of, circuit_of}
use Rattle.editions.specs.Limits.{delays_suit}
use Rattle.editions.specs.Questions as reader
use Rattle.method.specs.Sums.{fits}
use Rattle.waveform.specs.Input.{whole, file_part, word_part, words_from, questions}
use Rattle.text.specs.Text.{digit_at, decimal, frame_text}
use Rattle.waveform.specs.Lines.{line, lines}
use Rattle.waveform.specs.Wave.{answer_text, text_of}
use Rattle.waveform.specs.Example.{example_input, example_text, Shown}

pub shown : Shown
unfolding example_input example_text text_of answer_text whole file_part word_part questions words_from word_at number_at first_no reader.questions reader.head_questions reader.fills reader.gate_questions reader.length_suits delays_suit takes inputs_of delay_bytes delay_at kind_of all_below fanins_of gate_of circuit_of fits flatten tabulate_from flat_map zip_with frames_once gate_fn gate_times frames_with gate_frames raw_value gate_trace traces_once lane lines line frame_text decimal digit_at
shown = refl
