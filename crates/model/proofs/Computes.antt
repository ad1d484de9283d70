-- What a computed example looks through, gathered once by what it speaks of: to unfold one of these names is to unfold all that its line names.
-- Assumes nothing.
use Rattle.rights.specs.Sets.{has, single, enter_right, delete_right, within}
use Rattle.laws.specs.Check.{◌or_else◌, must, passes, any, all, is_some, between, first_fault, padded}
use Rattle.model.specs.Scheme.{is_subject, type_at, id_at, creates, destroys, names, is_new, creatable, destroyable}
use Rattle.model.specs.Request.{is_id, answer, number, after, unless_fault, and_then, type_fault, place_fault, places_fault, holds, tests_fault, act, operate, operate_all, carry_out, carry_out_if, step, run, answers}
use Rattle.model.specs.Answers.{test_place, all_steps, steps_of, steps_to, reply_of, reply_to, reply_each, reply_bytes}
use Rattle.model.specs.Papers.{may_create, change_cell, emptied, now_is, now_has, reached, born, gone, papers}
use Rattle.model.specs.Seats.{among, find, known, full, seat, thing_in, thing_at, may_take, paper_things, place, cell, change, put_thing, blank, add, remove, seats, stands_for}
use Rattle.model.specs.Arrays.{command_of, no_command, scheme_of}
use Rattle.model.specs.Accepted.{head_fault, type_range, row_fault, test_fault, change_fault, thing_fault, code_fault, operation_fault, operations_fault, command_fault, zero_test, zero_operation, padded_command, zero_command, accepted_command, accepted_scheme, apart, accepted_things, standing, accepted_places, accepted_matrix, zero_thing, accepted_seat, all_from}
use Rattle.model.specs.KeyExample.{key_scheme, key_matrix, two_destroys, same_numbers, same_replies, cell_is, is_true, starred}

-- sets of rights, and checks
unfoldable pub sets_compute : Unit {0}
unfolding has single enter_right delete_right within ◌or_else◌ must passes any all is_some between first_fault padded
sets_compute = tt

-- a request's checks and operations
unfoldable pub faults_compute : Unit {0}
unfolding is_subject type_at id_at creates destroys names is_new is_id unless_fault type_fault place_fault places_fault holds tests_fault
faults_compute = tt

-- what is told of it
unfoldable pub replies_compute : Unit {0}
unfolding test_place all_steps steps_of steps_to reply_of reply_to reply_each reply_bytes
replies_compute = tt

unfoldable pub requests_compute : Unit {0}
unfolding sets_compute faults_compute answer number after and_then act operate operate_all carry_out carry_out_if step run answers replies_compute
requests_compute = tt

-- the two forms of a matrix
unfoldable pub papers_compute : Unit {0}
unfolding may_create change_cell emptied now_is now_has reached born gone papers
papers_compute = tt

unfoldable pub seats_compute : Unit {0}
unfolding among find known full seat thing_in thing_at may_take paper_things place cell change put_thing blank add remove seats stands_for
seats_compute = tt

-- the key example
unfoldable pub key_computes : Unit {0}
unfolding key_scheme key_matrix two_destroys same_numbers same_replies cell_is is_true starred command_of scheme_of no_command
key_computes = tt

-- what is accepted
unfoldable pub commands_accepted_compute : Unit {0}
unfolding type_range row_fault test_fault change_fault thing_fault code_fault operation_fault operations_fault command_fault creatable destroyable
commands_accepted_compute = tt

unfoldable pub unused_computes : Unit {0}
unfolding zero_test zero_operation zero_thing padded_command zero_command
unused_computes = tt

unfoldable pub accepted_computes : Unit {0}
unfolding commands_accepted_compute unused_computes head_fault accepted_command accepted_scheme apart accepted_things standing accepted_places accepted_matrix accepted_seat all_from
accepted_computes = tt
