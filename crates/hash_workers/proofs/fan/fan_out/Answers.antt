use Rattle.std.proofs.Common.{◌≡◌, ◌<◌, length, vec_len, arith}
use Rattle.std.proofs.lemmas.Option.{slice_get_within, get_or_from_slice_get}
use Rattle.hash_workers.proofs.fan.fan_out.Goals as goal

pub returns : goal.returns
returns g c =
    let as_many : vec_len c.in_ok-works.works ≡ vec_len c.in_ok-seats.seats = c.in_ok-works.ensures.len in
    let all : vec_len c.in_ok-seats.seats ≡ c.args.first.places = c.in_ok-seats.ensures.len in
    let places = c.requires.first.1 in
    record {
      one_each = omega arith;
      each = λ worker work here.
          let within = slice_get_within c.in_ok-works.works.items worker work here in
          let inside : worker < length c.in_ok-seats.seats.items = omega arith in
          let gives = (c.in_ok-works.ensures.each worker work inside).1 in
          rw (get_or_from_slice_get c.in_ok-works.works.items worker work work here) at gives.call.met;
    }
