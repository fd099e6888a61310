-- `teaching::encode_sum` meets its contract, by that of `ldpc::encode` and the law of the codeword of a sum. Assumes nothing.
use Prim.Native.Nat.{ℕ, ◌≤◌}
use mathlib.Core.List.{List}
use lib.ListN.{length}
use Rattle.symbology.specs.Bits.{AllBits}
use Rattle.symbology.specs.Capacity.{sizes_for}
use Rattle.lent.specs.Work.{areas_of, RoomFor, net_in}
use Rattle.teaching.proofs.Encoding.{range_passed, belong, encode_asks, word_stored, words_add}
use Rattle.teaching.proofs.encode_sum.Goals as goal
use Rattle.teaching.proofs.encode_sum.Goals.{After-areas_for-a}

pub sizes_of-s-requires : goal.sizes_of-s-requires
sizes_of-s-requires c =
    range_passed c.args.p c.args.list.now c.requires.sized

pub areas_for-a-requires : goal.areas_for-a-requires
areas_for-a-requires c =
    belong c.args.p c.args.list.now c.requires.sized c.sizes_of-s.ensures

-- with the areas given: a work buffer that is long enough, with bits for net bits, is what `ldpc::encode` asks for
asks : (given : After-areas_for-a) (work : List ℕ)
    → let args = given.args in
    let s = sizes_for args.p args.list.now in
    s.work ≤ length work → AllBits (net_in (areas_of s) work)
    → RoomFor given.sizes_of-s.result given.areas_for-a.result (length work) × AllBits (net_in given.areas_for-a.result work)
asks given =
    encode_asks given.args.p given.args.list.now given.requires.sized given.sizes_of-s.ensures given.areas_for-a.ensures

pub encode-requires : goal.encode-requires
encode-requires c =
    asks (goal.at.encode-requires c).After-areas_for-a c.args.x.now c.requires.room.0 c.requires.bits.0

pub encode-requires-2 : goal.encode-requires-2
encode-requires-2 c =
    asks (goal.at.encode-requires-2 c).After-areas_for-a c.args.y.now c.requires.room.1 c.requires.bits.1

pub encode-requires-3 : goal.encode-requires-3
encode-requires-3 c =
    asks (goal.at.encode-requires-3 c).After-areas_for-a c.args.sum.now c.requires.room.2 c.requires.bits.2

pub returns : goal.returns
returns c =
    let p = c.args.p in
    let l = c.args.list.now in
    let none = c.requires.sized in
    let long = c.requires.room in
    let bits = c.requires.bits in
    let same = c.sizes_of-s.ensures in
    let areas = c.areas_for-a.ensures in
    let word_x = word_stored p l none same areas long.0 c.encode.ensures in
    let word_y = word_stored p l none same areas long.1 c.encode-2.ensures in
    let word_sum = word_stored p l none same areas long.2 c.encode-3.ensures in
    record {
      words = (word_x, word_y, word_sum);
      adds = words_add p l none same areas long.0 long.1 long.2 bits.0 bits.1
          c.encode.ensures c.encode-2.ensures c.encode-3.ensures;
    }
