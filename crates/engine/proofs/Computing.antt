-- The definitions that a call is computed by, for proofs by computation here and above: of messages and replies, of
-- tasks and tables, of rules, orders and plans, and of the calls. Assumes nothing.
use Rattle.wire.specs.Messages.{fields_of, read_of, command_reserved, confirm_reserved, reserved_set}
use Rattle.wire.specs.Block.{cut_short, no_block, linked}
use Rattle.reply.specs.Replies.{writable_of, bytes_of}
use Rattle.reply.specs.Calls.{left_of}
use Rattle.task.specs.Index.{first, some_below, all_below, map_of, map_at}
use Rattle.task.specs.Map.{lowest_free, with_bit, gone}
use Rattle.task.specs.Selections.{picks}
use Rattle.task.specs.Scan.{considered, scan_from}
use Rattle.table.specs.Tables.{zero_table, place_of as pathPlace, any_live, pick_of, has_room, accepted, ended_by, altered_at, marked_in, attention_gone_in, reset_attention_in, others_on, claimed_in, aca_cleared_in, finished}
use Rattle.table.specs.Steps.{running_among}
use Rattle.table.specs.Setup.{bad_list, fresh_paths, paths_of, fresh_table, setup_table}
use Rattle.sound.specs.Sound.{count_ok, paths_distinct, unused_zero, records_ok, units_ok, clashes, sound_of}
use Rattle.rules.specs.First.{first_that}
use Rattle.rules.specs.Facts.{facts_of, lookup_of}
use Rattle.rules.specs.Rules.{resumes_unmarked, misses_resume, contradicts, kept_out_by_aca, aca_kind_without_aca, passes_attention, reset_to_report, cleared_to_report, room_rules, field_rules, unit_rules, block_rules, command_rules}
use Rattle.rules.specs.Management.{order_code}
use Rattle.plan.specs.Plans.{order_plan, confirm_plan}
use Rattle.engine.specs.Calls.{heard_of, plan_at, plan_for, with_records, carried_out, answered_to, message_of, choice_on, start_choice, start_of, finish_choice, finish_of, setup_of, replied}

unfoldable bytes : Unit {0}
unfolding fields_of read_of command_reserved confirm_reserved reserved_set cut_short no_block linked writable_of bytes_of left_of
bytes = tt

unfoldable tables : Unit {0}
unfolding first some_below all_below map_of map_at lowest_free with_bit gone picks considered scan_from zero_table pathPlace any_live pick_of has_room accepted ended_by altered_at marked_in attention_gone_in reset_attention_in others_on claimed_in aca_cleared_in finished running_among bad_list fresh_paths paths_of fresh_table setup_table count_ok paths_distinct unused_zero records_ok units_ok clashes sound_of
tables = tt

unfoldable answers : Unit {0}
unfolding first_that facts_of lookup_of resumes_unmarked misses_resume contradicts kept_out_by_aca aca_kind_without_aca passes_attention reset_to_report cleared_to_report room_rules field_rules unit_rules block_rules command_rules order_code order_plan confirm_plan
answers = tt

unfoldable calls : Unit {0}
unfolding heard_of plan_at plan_for with_records carried_out answered_to message_of choice_on start_choice start_of finish_choice finish_of setup_of replied
calls = tt

-- to unfold this name is to unfold all that stand here
unfoldable pub computing : Unit {0}
unfolding bytes tables answers calls
computing = tt
