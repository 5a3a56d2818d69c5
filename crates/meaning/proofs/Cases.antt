-- Theorem 7: the table of cases, computed. Each definition on the way is opened.
use mathlib.Core.Path.{refl}
use Rattle.meaning.specs.Limits.{valid_id, fits_word}
use Rattle.meaning.specs.Schema.{known_type, known_relationship, type_at, parent_of, cells_of, has_parent, climbs, under, floored, known_role, relationship_at, source_type, target_type, near_type, far_type, parent_fits, faulty_type, faulty_floor, faulty_relationship, type_fault, floor_fault, relationship_fault}
use Rattle.meaning.specs.Register.{object_at, present, is_under, cell_at, instances, has_link, far_ends, cells_fit, below_floor, object_fits, faulty_object, link_fits, faulty_link, object_fault, link_fault}
use Rattle.meaning.specs.Forms.{form_count, member_type, well_typed, faulty_rule, rule_fault}
use Rattle.meaning.specs.Meaning.{compared, connected, quantified, combined, total, meaning, broken}
use Rattle.meaning.specs.Events.{apply, after, first_met, needs_type, type_needed, strictly_above, strictly_under, has_cell, set_below, brought_below, checks, event_refusal, refusal_from, batch_refusal, known_event}
use Rattle.meaning.specs.Reach.{steps_of, some_step, left_of, right_of, first_truth, second_truth, source_of, second_term, sum_source, role_moves, all_moves, cell_moves, kind_moves, moves, role_of_self, quiet_quantifier}
use Rattle.meaning.specs.Reach.{quiet_connective, quietly, quiet, quiet_from, quiet_insert, quiet_special, inserted, specialised, brought_in, events_select, inspection, selected, pairs_from, context_pairs, of_rule, selected_pairs}
use Rattle.meaning.specs.EventList.{event_type_words, where_parent, role_lists, all_lists, kind_lists, lists, context_lists, event_list}
use Rattle.meaning.specs.Answers.{refusal_at, book_refusal, register_refusal, refusal, found_answer, first_broken, unless_refused, list_refusal, check_refusal, register_left, outcome_of, outcome_unless, batch_check}
use Rattle.meaning.specs.Cases.{result_of, table}
use Rattle.meaning.specs.Claims.{CasesHold}

pub cases_hold : CasesHold
unfolding table result_of valid_id fits_word known_type known_relationship type_at parent_of cells_of has_parent climbs under known_role relationship_at
    source_type target_type near_type far_type parent_fits faulty_type faulty_floor faulty_relationship floored type_fault floor_fault relationship_fault object_at present is_under cell_at
    instances has_link far_ends cells_fit below_floor object_fits faulty_object link_fits faulty_link object_fault link_fault form_count member_type well_typed faulty_rule
    rule_fault compared connected quantified combined total meaning broken apply after first_met needs_type type_needed strictly_above strictly_under set_below brought_below
    has_cell known_event checks event_refusal refusal_from batch_refusal steps_of some_step left_of right_of first_truth second_truth source_of second_term sum_source role_moves
    all_moves cell_moves kind_moves moves role_of_self quiet_quantifier quiet_connective quietly quiet quiet_from quiet_insert quiet_special inserted specialised brought_in events_select inspection selected pairs_from
    context_pairs of_rule selected_pairs event_type_words where_parent role_lists all_lists kind_lists lists context_lists event_list refusal_at book_refusal
    register_refusal refusal found_answer first_broken unless_refused list_refusal check_refusal register_left outcome_of outcome_unless batch_check
cases_hold = refl
