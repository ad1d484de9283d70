-- That every public function of every library crate has a tight contract: of each, how its ending is read off what the equation `p` determines. The result
-- comes first, then a place for each parameter: what was lent, or `tt`; `z` fills in behind the last that was lent. Assumes nothing.
use Rattle.tight.specs.Functions.{Faults, Rights, Model, Accepted, Things, Records, AcceptedMatrix, CommandBytes, SchemeBytes, SchemeWrite, MatrixRecords, MatrixBytes, MatrixWrite, RequestBytes, RequestList, Plan, Engine, Hold, Moving, Totals, Convert, Lines, Printout, Robot}
use Rattle.tight.proofs.General.{equation}

pub faults : (M : Type 1) → Faults M
faults M = record {
  Fault-number = equation (λ κs a z w p i. (p i, z.1));
  Fault-from-u8 = equation (λ κs a z w p i. (p i, z.1));
  u8-from-Fault = equation (λ κs a z w p i. (p i, z.1));
  Fault-eq = equation (λ κs a z w p i. (p i, z.1));
}

pub rights : (M : Type 1) → Rights M
rights M = record {
  Right-partner = equation (λ κs a z w p i. (p i, z.1));
  Right-single = equation (λ κs a z w p i. (record { 0 = p i }, z.1));
  RightSet-all = equation (λ κs a z w p i. (record { 0 = p i }, z.1));
  RightSet-has = equation (λ κs a z w p i. (p i, z.1));
  RightSet-is-empty = equation (λ κs a z w p i. (p i, z.1));
  RightSet-enter = equation (λ κs a z w p i. (record { 0 = p i }, z.1));
  RightSet-delete = equation (λ κs a z w p i. (record { 0 = p i }, z.1));
  RightSet-complement = equation (λ κs a z w p i. (record { 0 = p i }, z.1));
  RightSet-within = equation (λ κs a z w p i. (p i, z.1));
  RightSet-count = equation (λ κs a z w p i. (p i, z.1));
  TypeSet-has = equation (λ κs a z w p i. (p i, z.1));
  TypeSet-within = equation (λ κs a z w p i. (p i, z.1));
  Right-below = equation (λ κs a z w p i. (p i, z.1));
  Right-is = equation (λ κs a z w p i. (p i, z.1));
  Right-is-zero = equation (λ κs a z w p i. (p i, z.1));
  Right-byte = equation (λ κs a z w p i. (p i, z.1));
  ThingType-below = equation (λ κs a z w p i. (p i, z.1));
  ThingType-is = equation (λ κs a z w p i. (p i, z.1));
  ThingType-is-zero = equation (λ κs a z w p i. (p i, z.1));
  ThingType-byte = equation (λ κs a z w p i. (p i, z.1));
  Parameter-below = equation (λ κs a z w p i. (p i, z.1));
  Parameter-is = equation (λ κs a z w p i. (p i, z.1));
  Parameter-is-zero = equation (λ κs a z w p i. (p i, z.1));
  Parameter-byte = equation (λ κs a z w p i. (p i, z.1));
  Right-eq = equation (λ κs a z w p i. (p i, z.1));
  ThingType-eq = equation (λ κs a z w p i. (p i, z.1));
  Parameter-eq = equation (λ κs a z w p i. (p i, z.1));
  RightSet-eq = equation (λ κs a z w p i. (p i, z.1));
  TypeSet-eq = equation (λ κs a z w p i. (p i, z.1));
}

pub model : (M : Type 1) → Model M
model M = record {
  Code-eq = equation (λ κs a z w p i. (p i, z.1));
  Refusal-eq = equation (λ κs a z w p i. (p i, z.1));
  Reply-eq = equation (λ κs a z w p i. (p i, z.1));
}

pub accepted : (M : Type 1) → Accepted M
accepted M = record {
  group_of = equation (λ κs a z w p i. (p i, z.1));
  is_create = equation (λ κs a z w p i. (p i, z.1));
  last_group = equation (λ κs a z w p i. (p i, z.1));
  type_at = equation (λ κs a z w p i. (p i, z.1));
  command_accepted = equation (λ κs a z w p i. (p i, z.1));
  command_fault = equation (λ κs a z w p i. (p i, z.1));
  head_accepted = equation (λ κs a z w p i. (p i, z.1));
  scheme_accepted = equation (λ κs a z w p i. (p i, z.1));
  creatable = equation (λ κs a z w p i. (p i, z.1));
  destroyable = equation (λ κs a z w p i. (p i, z.1));
}

pub things : (M : Type 1) → Things M
things M = record {
  no_things = equation (λ κs a z w p i. (p i, z.1));
  seat_in = equation (λ κs a z w p i. (p i, z.1));
  seat_of = equation (λ κs a z w p i. (p i, z.1));
  put_thing = equation (λ κs a z w p i. (p i, z.1));
  copy_cells = equation (λ κs a z w p i. (tt, (p i, z.1.1)));
}

pub records : (M : Type 1) → Records M
records M = record {
  Kinds-has = equation (λ κs a z w p i. (p i, z.1));
  record_at = equation (λ κs a z w p i. (p i, z.1));
  body = equation (λ κs a z w p i. (p i, z.1));
  next_record = equation (λ κs a z w p i. (p i, z.1));
  byte_at = equation (λ κs a z w p i. (p i, z.1));
  field_at = equation (λ κs a z w p i. (p i, z.1));
  field2_at = equation (λ κs a z w p i. (p i, z.1));
  field8_at = equation (λ κs a z w p i. (p i, z.1));
  put1 = equation (λ κs a z w p i. (tt, (p i, z.1.1)));
  put2 = equation (λ κs a z w p i. (tt, (p i, z.1.1)));
  put8 = equation (λ κs a z w p i. (tt, (p i, z.1.1)));
  put_front = equation (λ κs a z w p i. (tt, (p i, z.1.1)));
  write_bytes = equation (λ κs a z w p i. ((p i).0, ((p i).1, z.1.1)));
  write_record = equation (λ κs a z w p i. ((p i).0, ((p i).1, z.1.1)));
  Record-eq = equation (λ κs a z w p i. (p i, z.1));
  Refused-eq = equation (λ κs a z w p i. (p i, z.1));
}

pub accepted_matrix : (M : Type 1) → AcceptedMatrix M
accepted_matrix M = record {
  things_accepted = equation (λ κs a z w p i. (p i, z.1));
  matrix_accepted = equation (λ κs a z w p i. (p i, z.1));
}

pub command_bytes : (M : Type 1) → CommandBytes M
command_bytes M = record {
  read_command = equation (λ κs a z w p i. ((p i).0, (tt, (tt, (tt, ((p i).1, z.1.1.1.1.1))))));
  read_head = equation (λ κs a z w p i. (p i, z.1));
  no_command = equation (λ κs a z w p i. (p i, z.1));
}

pub scheme_bytes : (M : Type 1) → SchemeBytes M
scheme_bytes M = record {
  no_scheme = equation (λ κs a z w p i. (p i, z.1));
  read_scheme = equation (λ κs a z w p i. ((p i).0, (tt, ((p i).1, z.1.1.1))));
}

pub scheme_write : (M : Type 1) → SchemeWrite M
scheme_write M = record {
  write_scheme = equation (λ κs a z w p i. ((p i).0, ((p i).1, z.1.1)));
}

pub matrix_records : (M : Type 1) → MatrixRecords M
matrix_records M = record {
  any_record_at = equation (λ κs a z w p i. (p i, z.1));
  read_head = equation (λ κs a z w p i. (p i, z.1));
  read_thing = equation (λ κs a z w p i. (p i, z.1));
  read_cell = equation (λ κs a z w p i. (p i, z.1));
  FoundHead-eq = equation (λ κs a z w p i. (p i, z.1));
  FoundThing-eq = equation (λ κs a z w p i. (p i, z.1));
  FoundCell-eq = equation (λ κs a z w p i. (p i, z.1));
}

pub matrix_bytes : (M : Type 1) → MatrixBytes M
matrix_bytes M = record {
  read_matrix = equation (λ κs a z w p i. ((p i).0, (tt, (tt, ((p i).1, ((p i).2, z.1.1.1.1.1))))));
  read_matrix_by_head = equation (λ κs a z w p i. ((p i).0, (tt, (tt, ((p i).1, ((p i).2, z.1.1.1.1.1))))));
  read_rest = equation (λ κs a z w p i. ((p i).0, (tt, (tt, (tt, (tt, (tt, ((p i).1, ((p i).2, z.1.1.1.1.1.1.1.1)))))))));
}

pub matrix_write : (M : Type 1) → MatrixWrite M
matrix_write M = record {
  write_matrix = equation (λ κs a z w p i. ((p i).0, ((p i).1, z.1.1)));
  write_matrix_by_head = equation (λ κs a z w p i. ((p i).0, ((p i).1, z.1.1)));
}

pub request_bytes : (M : Type 1) → RequestBytes M
request_bytes M = record {
  read_request = equation (λ κs a z w p i. ((p i).0, (tt, (tt, ((p i).1, z.1.1.1.1)))));
  skip_request = equation (λ κs a z w p i. (p i, z.1));
  write_request = equation (λ κs a z w p i. ((p i).0, ((p i).1, z.1.1)));
  Request-eq = equation (λ κs a z w p i. (p i, z.1));
}

pub request_list : (M : Type 1) → RequestList M
request_list M = record {
  count_requests = equation (λ κs a z w p i. (p i, z.1));
}

pub plan : (M : Type 1) → Plan M
plan M = record {
  locate = equation (λ κs a z w p i. ((p i).0, (tt, (tt, (tt, (tt, ((p i).1, z.1.1.1.1.1.1)))))));
  plan_all = equation (λ κs a z w p i. ((p i).0, ((p i).1, ((p i).2, z.1.1.1))));
  seat_at = equation (λ κs a z w p i. (p i, z.1));
}

pub engine : (M : Type 1) → Engine M
engine M = record {
  run_list = equation (λ κs a z w p i. ((p i).0, (tt, ((p i).1, ((p i).2, (tt, ((p i).3, z.1.1.1.1.1.1)))))));
  run_quietly = equation (λ κs a z w p i. ((p i).0, (tt, ((p i).1, ((p i).2, z.1.1.1.1)))));
  request = equation (λ κs a z w p i. ((p i).0.answer, (tt, ((p i).0.things, ((p i).1, z.1.1.1.1)))));
  Ended-eq = equation (λ κs a z w p i. (p i, z.1));
}

pub hold : (M : Type 1) → Hold M
hold M = record {
  mark_thing = equation (λ κs a z w p i. ((p i).0, ((p i).1, z.1.1)));
  release = equation (λ κs a z w p i. ((p i).0, (tt, ((p i).1, z.1.1.1))));
  hold = equation (λ κs a z w p i. ((p i).0, (tt, ((p i).1, z.1.1.1))));
}

pub moving : (M : Type 1) → Moving M
moving M = record {
  forward = equation (λ κs a z w p i. ((p i).0, (tt, (tt, ((p i).1, z.1.1.1.1)))));
  back = equation (λ κs a z w p i. ((p i).0, (tt, (tt, ((p i).1, z.1.1.1.1)))));
}

pub totals : (M : Type 1) → Totals M
totals M = record {
  Totals-eq = equation (λ κs a z w p i. (p i, z.1));
  totals = equation (λ κs a z w p i. (p i, z.1));
}

pub convert : (M : Type 1) → Convert M
convert M = record {
  convert_matrix = equation (λ κs a z w p i. ((p i).0, ((p i).1, z.1.1)));
  convert_scheme = equation (λ κs a z w p i. ((p i).0, ((p i).1, z.1.1)));
  converted_cells = equation (λ κs a z w p i. ((p i).0, (tt, (tt, ((p i).1, z.1.1.1.1)))));
  converted_scheme = equation (λ κs a z w p i. ((p i).0, ((p i).1, z.1.1)));
}

pub lines : (M : Type 1) → Lines M
lines M = record {
  put_text = equation (λ κs a z w p i. ((p i).0, ((p i).1, z.1.1)));
  put_decimal = equation (λ κs a z w p i. ((p i).0, ((p i).1, z.1.1)));
  put_number = equation (λ κs a z w p i. ((p i).0, ((p i).1, z.1.1)));
  put_line = equation (λ κs a z w p i. ((p i).0, ((p i).1, z.1.1)));
  id_in = equation (λ κs a z w p i. (p i, z.1));
}

pub printout : (M : Type 1) → Printout M
printout M = record {
  answers_text = equation (λ κs a z w p i. ((p i).0, (tt, (tt, ((p i).1, z.1.1.1.1)))));
  printout = equation (λ κs a z w p i. ((p i).0, (tt, (tt, (tt, ((p i).1, z.1.1.1.1.1))))));
}

pub robot : (M : Type 1) → Robot M
robot M = record {
  slushferret_check_matrix = equation (λ κs a z w p i. ((p i).0, (tt, (tt, ((p i).1, z.1.1.1.1)))));
  slushferret_check_scheme = equation (λ κs a z w p i. ((p i).0, (tt, ((p i).1, z.1.1.1))));
  slushferret_convert_matrix = equation (λ κs a z w p i. ((p i).0, (tt, (tt, ((p i).1, ((p i).2, z.1.1.1.1.1))))));
  slushferret_convert_scheme = equation (λ κs a z w p i. ((p i).0, (tt, ((p i).1, ((p i).2, z.1.1.1.1)))));
  slushferret_hold = equation (λ κs a z w p i. ((p i).0, (tt, (tt, (tt, ((p i).1, ((p i).2, z.1.1.1.1.1.1)))))));
  slushferret_release = equation (λ κs a z w p i. ((p i).0, (tt, (tt, (tt, ((p i).1, ((p i).2, z.1.1.1.1.1.1)))))));
  slushferret_forward = equation (λ κs a z w p i. ((p i).0, (tt, (tt, ((p i).1, ((p i).2, z.1.1.1.1.1))))));
  slushferret_back = equation (λ κs a z w p i. ((p i).0, (tt, (tt, ((p i).1, ((p i).2, z.1.1.1.1.1))))));
  slushferret_run = equation (λ κs a z w p i. ((p i).0, (tt, (tt, (tt, ((p i).1, ((p i).2, ((p i).3, z.1.1.1.1.1.1.1))))))));
  slushferret_write_request = equation (λ κs a z w p i. ((p i).0, (tt, (tt, ((p i).1, (tt, ((p i).2, z.1.1.1.1.1.1)))))));
  slushferret_version = equation (λ κs a z w p i. (p i, z.1));
}
