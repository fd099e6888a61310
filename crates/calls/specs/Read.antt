-- The whole read: its answer, and the message buffer and the places at exit (the work buffer is that of a write). It goes in stages, each
-- a function of what the stage before hands on: the tests up to the checks, the received word, the accepted word, the net bits. The counts
-- are handed on with it, as one value, and each stage sets its own. `room` is the length that a message may have, and `slots` how many
-- places may be stored.
-- Assumes nothing.
use Rattle.std.specs.Prelude.{ℕ, cond, List, [], ◌∷◌, ◌++◌, length, take, eqb}
use Rattle.std.proofs.lemmas.List.Edits.{sets}
use Rattle.symbology.specs.declared.Params.{Params}
use Rattle.symbology.specs.declared.Sizes.{Sizes}
use Rattle.symbology.specs.Capacity.{sizes_for}
use Rattle.symbology.specs.Rule.{unmet_count, repairs_of, places_of, last_word}
use Rattle.symbology.specs.Code.{checks_for, message_bits_for}
use Rattle.symbology.specs.Stream.{decode}
use Rattle.symbology.specs.Net.{stream_in}
use Rattle.symbology.specs.Symbol.{received_word, wrong_stuffing}
use Rattle.calls.specs.declared.Counts.{Counts}
use Rattle.calls.specs.declared.ReadAnswer.{ReadAnswer}
use Rattle.calls.specs.Answers.{StreamAnswer, stream_refused, stream_done, counted, refused, from_stream}
use Rattle.calls.specs.Tests.{Row, first_of, stuck_word, short_places, spare_one, early_rows, stream_rows, received_rows}

-- ---- the message and the places

-- the bytes that net bits give
abbrev pub message_in_net : List ℕ → List ℕ
message_in_net net = (decode (stream_in net)).bytes

-- the bytes that an accepted word gives
unfoldable pub message_in_accepted : Sizes → List ℕ → List ℕ
message_in_accepted s w = message_in_net (take s.net (message_bits_for s w))

-- the message of a sampled matrix: the bytes of the word that the rule ends with. A read that is refused gives none of them.
unfoldable pub message_in : Params → List ℕ → List ℕ → List ℕ
message_in p l matrix =
    let s = sizes_for p l in
    message_in_accepted s (last_word (checks_for s) (received_word p l matrix))

-- the places of the bits that the rule turns in the word of a sampled matrix, in the order of repair. A read that is refused stores none
-- of them.
unfoldable pub places_in : Params → List ℕ → List ℕ → List ℕ
places_in p l matrix = places_of (repairs_of (checks_for (sizes_for p l)) (received_word p l matrix))

-- A lent buffer after a call that answers this number: on 0 what is stored stands over its front, as far as it reaches, else it is as it
-- came.
unfoldable pub front_after : ℕ → List ℕ → List ℕ → List ℕ
front_after number stored before = cond (eqb number 0) (sets before 0 stored) before

-- ---- the answer, the stages last to first

-- from the net bits: number and length
unfoldable pub stream_answer : List ℕ → ℕ → StreamAnswer
stream_answer net room = first_of stream_refused (stream_rows net room) (stream_done (length (message_in_net net)))

-- from the accepted word (document 01's term): the stream's answer, with the counts
unfoldable pub answer_from_accepted : Sizes → List ℕ → Counts → ℕ → ReadAnswer
answer_from_accepted s w c room =
    let net = take s.net (message_bits_for s w) in
    first_of (counted c) (spare_one s w ∷ []) (from_stream c (stream_answer net room))

-- the counts once a received word is mended: the repairs and the checks unmet in it are set, and the others stay
abbrev pub mended_counts : Sizes → List ℕ → Counts → Counts
mended_counts s w got =
    let cs = checks_for s in
    record { repairs = length (repairs_of cs w); unmet = unmet_count cs w; stuffing = got.stuffing }

-- from the received word: stuck, or more repairs than places may be stored, or the read goes on from the word the rule ends with
unfoldable pub answer_from_received : Sizes → List ℕ → Counts → ℕ → ℕ → ReadAnswer
answer_from_received s w got room slots =
    let c = mended_counts s w got in
    first_of (counted c) (stuck_word s w ∷ short_places s w slots ∷ []) (answer_from_accepted s (last_word (checks_for s) w) c room)

-- the counts once a matrix is received: document 02, W-202, the wrong stuffing bits
abbrev pub received_counts : Params → List ℕ → List ℕ → Counts
received_counts p l matrix = record { repairs = 0; unmet = 0; stuffing = wrong_stuffing p l matrix }

-- the answer of a read with a work buffer of this length
unfoldable pub read_answer : Params → List ℕ → List ℕ → ℕ → ℕ → ℕ → ReadAnswer
read_answer p l matrix work room slots =
    first_of refused (early_rows p l matrix work)
    (answer_from_received (sizes_for p l) (received_word p l matrix) (received_counts p l matrix) room slots)

-- the counts of a read that reaches the checks
abbrev pub counts_of : Params → List ℕ → List ℕ → Counts
counts_of p l matrix = mended_counts (sizes_for p l) (received_word p l matrix) (received_counts p l matrix)

-- All rows of a read. Its number and place are those of this table (the law `read_table`).
unfoldable pub read_rows : Params → List ℕ → List ℕ → ℕ → ℕ → ℕ → List Row
read_rows p l matrix work room slots =
    early_rows p l matrix work ++ received_rows (sizes_for p l) (received_word p l matrix) room slots
