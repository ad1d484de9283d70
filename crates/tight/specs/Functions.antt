-- Every public function of every library crate, by its crate, with the statement that its contract is tight. A new function is one line here and one in
-- proofs/Functions.antt, a new crate also a `use` line, a record, and its name in `tight` of crates.txt; .ci/statements prints the lines that are missing.
use Rattle.tight.specs.Tight.{Tight, TightAs}
use Rattle.faults.specs.contracts as faults
use Rattle.rights.specs.contracts as rights
use Rattle.model.specs.contracts as model
use Rattle.accepted.specs.contracts as accepted
use Rattle.things.specs.contracts as things
use Rattle.records.specs.contracts as records
use Rattle.accepted_matrix.specs.contracts as accepted_matrix
use Rattle.command_bytes.specs.contracts as command_bytes
use Rattle.scheme_bytes.specs.contracts as scheme_bytes
use Rattle.scheme_write.specs.contracts as scheme_write
use Rattle.matrix_records.specs.contracts as matrix_records
use Rattle.matrix_bytes.specs.contracts as matrix_bytes
use Rattle.matrix_write.specs.contracts as matrix_write
use Rattle.request_bytes.specs.contracts as request_bytes
use Rattle.request_list.specs.contracts as request_list
use Rattle.plan.specs.contracts as plan
use Rattle.engine.specs.contracts as engine
use Rattle.hold.specs.contracts as hold
use Rattle.moving.specs.contracts as moving
use Rattle.totals.specs.contracts as totals
use Rattle.convert.specs.contracts as convert
use Rattle.lines.specs.contracts as lines
use Rattle.printout.specs.contracts as printout
use Rattle.robot.specs.contracts as robot

pub record Faults (M : Type 1) : Type 2 where
  pub Fault-number : Tight M faults.Fault.number.ended (λ 𝓤. faults.Fault.number.clauses)
  pub Fault-from-u8 : Tight M faults.FaultFromU8.from.ended (λ 𝓤. faults.FaultFromU8.from.clauses)
  pub u8-from-Fault : Tight M faults.U8FromFault.from.ended (λ 𝓤. faults.U8FromFault.from.clauses)
  pub Fault-eq : Tight M faults.FaultPartialEq.eq.ended (λ 𝓤. faults.FaultPartialEq.eq.clauses)

pub record Rights (M : Type 1) : Type 2 where
  pub Right-partner : Tight M rights.Right.partner.ended (λ 𝓤. rights.Right.partner.clauses)
  pub Right-single : Tight M rights.Right.single.ended (λ 𝓤. rights.Right.single.clauses)
  pub RightSet-all : Tight M rights.RightSet.all.ended (λ 𝓤. rights.RightSet.all.clauses)
  pub RightSet-has : Tight M rights.RightSet.has.ended (λ 𝓤. rights.RightSet.has.clauses)
  pub RightSet-is-empty : Tight M rights.RightSet.is_empty.ended (λ 𝓤. rights.RightSet.is_empty.clauses)
  pub RightSet-enter : Tight M rights.RightSet.enter.ended (λ 𝓤. rights.RightSet.enter.clauses)
  pub RightSet-delete : Tight M rights.RightSet.delete.ended (λ 𝓤. rights.RightSet.delete.clauses)
  pub RightSet-complement : Tight M rights.RightSet.complement.ended (λ 𝓤. rights.RightSet.complement.clauses)
  pub RightSet-within : Tight M rights.RightSet.within.ended (λ 𝓤. rights.RightSet.within.clauses)
  pub RightSet-count : Tight M rights.RightSet.count.ended (λ 𝓤. rights.RightSet.count.clauses)
  pub TypeSet-has : Tight M rights.TypeSet.has.ended (λ 𝓤. rights.TypeSet.has.clauses)
  pub TypeSet-within : Tight M rights.TypeSet.within.ended (λ 𝓤. rights.TypeSet.within.clauses)
  pub Right-below : Tight M rights.RightNumbered.below.ended (λ 𝓤. rights.RightNumbered.below.clauses)
  pub Right-is : Tight M rights.RightNumbered.is.ended (λ 𝓤. rights.RightNumbered.is.clauses)
  pub Right-is-zero : Tight M rights.RightNumbered.is_zero.ended (λ 𝓤. rights.RightNumbered.is_zero.clauses)
  pub Right-byte : Tight M rights.RightNumbered.byte.ended (λ 𝓤. rights.RightNumbered.byte.clauses)
  pub ThingType-below : Tight M rights.ThingTypeNumbered.below.ended (λ 𝓤. rights.ThingTypeNumbered.below.clauses)
  pub ThingType-is : Tight M rights.ThingTypeNumbered.is.ended (λ 𝓤. rights.ThingTypeNumbered.is.clauses)
  pub ThingType-is-zero : Tight M rights.ThingTypeNumbered.is_zero.ended (λ 𝓤. rights.ThingTypeNumbered.is_zero.clauses)
  pub ThingType-byte : Tight M rights.ThingTypeNumbered.byte.ended (λ 𝓤. rights.ThingTypeNumbered.byte.clauses)
  pub Parameter-below : Tight M rights.ParameterNumbered.below.ended (λ 𝓤. rights.ParameterNumbered.below.clauses)
  pub Parameter-is : Tight M rights.ParameterNumbered.is.ended (λ 𝓤. rights.ParameterNumbered.is.clauses)
  pub Parameter-is-zero : Tight M rights.ParameterNumbered.is_zero.ended (λ 𝓤. rights.ParameterNumbered.is_zero.clauses)
  pub Parameter-byte : Tight M rights.ParameterNumbered.byte.ended (λ 𝓤. rights.ParameterNumbered.byte.clauses)
  pub Right-eq : Tight M rights.RightPartialEq.eq.ended (λ 𝓤. rights.RightPartialEq.eq.clauses)
  pub ThingType-eq : Tight M rights.ThingTypePartialEq.eq.ended (λ 𝓤. rights.ThingTypePartialEq.eq.clauses)
  pub Parameter-eq : Tight M rights.ParameterPartialEq.eq.ended (λ 𝓤. rights.ParameterPartialEq.eq.clauses)
  pub RightSet-eq : Tight M rights.RightSetPartialEq.eq.ended (λ 𝓤. rights.RightSetPartialEq.eq.clauses)
  pub TypeSet-eq : Tight M rights.TypeSetPartialEq.eq.ended (λ 𝓤. rights.TypeSetPartialEq.eq.clauses)

pub record Model (M : Type 1) : Type 2 where
  pub Code-eq : Tight M model.CodePartialEq.eq.ended (λ 𝓤. model.CodePartialEq.eq.clauses)
  pub Refusal-eq : Tight M model.RefusalPartialEq.eq.ended (λ 𝓤. model.RefusalPartialEq.eq.clauses)
  pub Reply-eq : Tight M model.ReplyPartialEq.eq.ended (λ 𝓤. model.ReplyPartialEq.eq.clauses)

pub record Accepted (M : Type 1) : Type 2 where
  pub group_of : Tight M accepted.group_of.ended (λ 𝓤. accepted.group_of.clauses)
  pub is_create : Tight M accepted.is_create.ended (λ 𝓤. accepted.is_create.clauses)
  pub last_group : Tight M accepted.last_group.ended (λ 𝓤. accepted.last_group.clauses)
  pub type_at : Tight M accepted.type_at.ended (λ 𝓤. accepted.type_at.clauses)
  pub command_accepted : Tight M accepted.command_accepted.ended (λ 𝓤. accepted.command_accepted.clauses)
  pub command_fault : Tight M accepted.command_fault.ended (λ 𝓤. accepted.command_fault.clauses)
  pub head_accepted : Tight M accepted.head_accepted.ended (λ 𝓤. accepted.head_accepted.clauses)
  pub scheme_accepted : Tight M accepted.scheme_accepted.ended (λ 𝓤. accepted.scheme_accepted.clauses)
  pub creatable : Tight M accepted.creatable.ended (λ 𝓤. accepted.creatable.clauses)
  pub destroyable : Tight M accepted.destroyable.ended (λ 𝓤. accepted.destroyable.clauses)

pub record Things (M : Type 1) : Type 2 where
  pub no_things : Tight M things.no_things.ended (λ 𝓤. things.no_things.clauses)
  pub seat_in : Tight M things.seat_in.ended (λ 𝓤. things.seat_in.clauses)
  pub seat_of : Tight M things.seat_of.ended (λ 𝓤. things.seat_of.clauses)
  pub put_thing : Tight M things.put_thing.ended (λ 𝓤. things.put_thing.clauses)
  pub copy_cells : Tight M things.copy_cells.ended (λ 𝓤. things.copy_cells.clauses)

pub record Records (M : Type 1) : Type 2 where
  pub Kinds-has : Tight M records.Kinds.has.ended (λ 𝓤. records.Kinds.has.clauses)
  pub record_at : Tight M records.record_at.ended (λ 𝓤. records.record_at.clauses)
  -- the exception: what the slice that is lent back holds is determined, not where it lies
  pub body : TightAs M records.body.ended (λ κs r. r.now) (λ 𝓤. records.body.clauses)
  pub next_record : Tight M records.next_record.ended (λ 𝓤. records.next_record.clauses)
  pub byte_at : Tight M records.byte_at.ended (λ 𝓤. records.byte_at.clauses)
  pub field_at : Tight M records.field_at.ended (λ 𝓤. records.field_at.clauses)
  pub field2_at : Tight M records.field2_at.ended (λ 𝓤. records.field2_at.clauses)
  pub field8_at : Tight M records.field8_at.ended (λ 𝓤. records.field8_at.clauses)
  pub put1 : Tight M records.put1.ended (λ 𝓤. records.put1.clauses)
  pub put2 : Tight M records.put2.ended (λ 𝓤. records.put2.clauses)
  pub put8 : Tight M records.put8.ended (λ 𝓤. records.put8.clauses)
  pub put_front : Tight M records.put_front.ended (λ 𝓤. records.put_front.clauses)
  pub write_bytes : Tight M records.write_bytes.ended (λ 𝓤. records.write_bytes.clauses)
  pub write_record : Tight M records.write_record.ended (λ 𝓤. records.write_record.clauses)
  pub Record-eq : Tight M records.RecordPartialEq.eq.ended (λ 𝓤. records.RecordPartialEq.eq.clauses)
  pub Refused-eq : Tight M records.RefusedPartialEq.eq.ended (λ 𝓤. records.RefusedPartialEq.eq.clauses)

pub record AcceptedMatrix (M : Type 1) : Type 2 where
  pub things_accepted : Tight M accepted_matrix.things_accepted.ended (λ 𝓤. accepted_matrix.things_accepted.clauses)
  pub matrix_accepted : Tight M accepted_matrix.matrix_accepted.ended (λ 𝓤. accepted_matrix.matrix_accepted.clauses)

pub record CommandBytes (M : Type 1) : Type 2 where
  pub read_command : Tight M command_bytes.read_command.ended (λ 𝓤. command_bytes.read_command.clauses)
  pub read_head : Tight M command_bytes.read_head.ended (λ 𝓤. command_bytes.read_head.clauses)
  pub no_command : Tight M command_bytes.no_command.ended (λ 𝓤. command_bytes.no_command.clauses)

pub record SchemeBytes (M : Type 1) : Type 2 where
  pub no_scheme : Tight M scheme_bytes.no_scheme.ended (λ 𝓤. scheme_bytes.no_scheme.clauses)
  pub read_scheme : Tight M scheme_bytes.read_scheme.ended (λ 𝓤. scheme_bytes.read_scheme.clauses)

pub record SchemeWrite (M : Type 1) : Type 2 where
  pub write_scheme : Tight M scheme_write.write_scheme.ended (λ 𝓤. scheme_write.write_scheme.clauses)

pub record MatrixRecords (M : Type 1) : Type 2 where
  pub any_record_at : Tight M matrix_records.any_record_at.ended (λ 𝓤. matrix_records.any_record_at.clauses)
  pub read_head : Tight M matrix_records.read_head.ended (λ 𝓤. matrix_records.read_head.clauses)
  pub read_thing : Tight M matrix_records.read_thing.ended (λ 𝓤. matrix_records.read_thing.clauses)
  pub read_cell : Tight M matrix_records.read_cell.ended (λ 𝓤. matrix_records.read_cell.clauses)
  pub FoundHead-eq : Tight M matrix_records.answers.FoundHeadPartialEq.eq.ended (λ 𝓤. matrix_records.answers.FoundHeadPartialEq.eq.clauses)
  pub FoundThing-eq : Tight M matrix_records.answers.FoundThingPartialEq.eq.ended (λ 𝓤. matrix_records.answers.FoundThingPartialEq.eq.clauses)
  pub FoundCell-eq : Tight M matrix_records.answers.FoundCellPartialEq.eq.ended (λ 𝓤. matrix_records.answers.FoundCellPartialEq.eq.clauses)

pub record MatrixBytes (M : Type 1) : Type 2 where
  pub read_matrix : Tight M matrix_bytes.read_matrix.ended (λ 𝓤. matrix_bytes.read_matrix.clauses)
  pub read_matrix_by_head : Tight M matrix_bytes.read_matrix_by_head.ended (λ 𝓤. matrix_bytes.read_matrix_by_head.clauses)
  pub read_rest : Tight M matrix_bytes.read_rest.ended (λ 𝓤. matrix_bytes.read_rest.clauses)

pub record MatrixWrite (M : Type 1) : Type 2 where
  pub write_matrix : Tight M matrix_write.write_matrix.ended (λ 𝓤. matrix_write.write_matrix.clauses)
  pub write_matrix_by_head : Tight M matrix_write.write_matrix_by_head.ended (λ 𝓤. matrix_write.write_matrix_by_head.clauses)

pub record RequestBytes (M : Type 1) : Type 2 where
  pub read_request : Tight M request_bytes.read_request.ended (λ 𝓤. request_bytes.read_request.clauses)
  pub skip_request : Tight M request_bytes.skip_request.ended (λ 𝓤. request_bytes.skip_request.clauses)
  pub write_request : Tight M request_bytes.write_request.ended (λ 𝓤. request_bytes.write_request.clauses)
  pub Request-eq : Tight M request_bytes.RequestPartialEq.eq.ended (λ 𝓤. request_bytes.RequestPartialEq.eq.clauses)

pub record RequestList (M : Type 1) : Type 2 where
  pub count_requests : Tight M request_list.count_requests.ended (λ 𝓤. request_list.count_requests.clauses)

pub record Plan (M : Type 1) : Type 2 where
  pub locate : Tight M plan.locate.ended (λ 𝓤. plan.locate.clauses)
  pub plan_all : Tight M plan.plan_all.ended (λ 𝓤. plan.plan_all.clauses)
  pub seat_at : Tight M plan.seat_at.ended (λ 𝓤. plan.seat_at.clauses)

pub record Engine (M : Type 1) : Type 2 where
  pub run_list : Tight M engine.run_list.ended (λ 𝓤. engine.run_list.clauses)
  pub run_quietly : Tight M engine.run_quietly.ended (λ 𝓤. engine.run_quietly.clauses)
  pub request : Tight M engine.request.ended (λ 𝓤. engine.request.clauses)
  pub Ended-eq : Tight M engine.answers.EndedPartialEq.eq.ended (λ 𝓤. engine.answers.EndedPartialEq.eq.clauses)

pub record Hold (M : Type 1) : Type 2 where
  pub mark_thing : Tight M hold.mark_thing.ended (λ 𝓤. hold.mark_thing.clauses)
  pub release : Tight M hold.release.ended (λ 𝓤. hold.release.clauses)
  -- the last one, since it hides the crate's name
  pub hold : Tight M hold.hold.ended (λ 𝓤. hold.hold.clauses)

pub record Moving (M : Type 1) : Type 2 where
  pub forward : Tight M moving.forward.ended (λ 𝓤. moving.forward.clauses)
  pub back : Tight M moving.back.ended (λ 𝓤. moving.back.clauses)

pub record Totals (M : Type 1) : Type 2 where
  pub Totals-eq : Tight M totals.answers.TotalsPartialEq.eq.ended (λ 𝓤. totals.answers.TotalsPartialEq.eq.clauses)
  -- the last one, since it hides the crate's name
  pub totals : Tight M totals.totals.ended (λ 𝓤. totals.totals.clauses)

pub record Convert (M : Type 1) : Type 2 where
  pub convert_matrix : Tight M convert.convert_matrix.ended (λ 𝓤. convert.convert_matrix.clauses)
  pub convert_scheme : Tight M convert.convert_scheme.ended (λ 𝓤. convert.convert_scheme.clauses)
  pub converted_cells : Tight M convert.converted_cells.ended (λ 𝓤. convert.converted_cells.clauses)
  pub converted_scheme : Tight M convert.converted_scheme.ended (λ 𝓤. convert.converted_scheme.clauses)

pub record Lines (M : Type 1) : Type 2 where
  pub put_text : Tight M lines.put_text.ended (λ 𝓤. lines.put_text.clauses)
  pub put_decimal : Tight M lines.put_decimal.ended (λ 𝓤. lines.put_decimal.clauses)
  pub put_number : Tight M lines.put_number.ended (λ 𝓤. lines.put_number.clauses)
  pub put_line : Tight M lines.put_line.ended (λ 𝓤. lines.put_line.clauses)
  pub id_in : Tight M lines.id_in.ended (λ 𝓤. lines.id_in.clauses)

pub record Printout (M : Type 1) : Type 2 where
  pub answers_text : Tight M printout.answers_text.ended (λ 𝓤. printout.answers_text.clauses)
  pub printout : Tight M printout.printout.ended (λ 𝓤. printout.printout.clauses)

pub record Robot (M : Type 1) : Type 2 where
  pub slushferret_check_matrix : Tight M robot.slushferret_check_matrix.ended (λ 𝓤. robot.slushferret_check_matrix.clauses)
  pub slushferret_check_scheme : Tight M robot.slushferret_check_scheme.ended (λ 𝓤. robot.slushferret_check_scheme.clauses)
  pub slushferret_convert_matrix : Tight M robot.slushferret_convert_matrix.ended (λ 𝓤. robot.slushferret_convert_matrix.clauses)
  pub slushferret_convert_scheme : Tight M robot.slushferret_convert_scheme.ended (λ 𝓤. robot.slushferret_convert_scheme.clauses)
  pub slushferret_hold : Tight M robot.slushferret_hold.ended (λ 𝓤. robot.slushferret_hold.clauses)
  pub slushferret_release : Tight M robot.slushferret_release.ended (λ 𝓤. robot.slushferret_release.clauses)
  pub slushferret_forward : Tight M robot.slushferret_forward.ended (λ 𝓤. robot.slushferret_forward.clauses)
  pub slushferret_back : Tight M robot.slushferret_back.ended (λ 𝓤. robot.slushferret_back.clauses)
  pub slushferret_run : Tight M robot.slushferret_run.ended (λ 𝓤. robot.slushferret_run.clauses)
  pub slushferret_write_request : Tight M robot.slushferret_write_request.ended (λ 𝓤. robot.slushferret_write_request.clauses)
  pub slushferret_version : Tight M robot.slushferret_version.ended (λ 𝓤. robot.slushferret_version.clauses)
