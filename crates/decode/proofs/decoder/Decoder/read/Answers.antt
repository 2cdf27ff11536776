use Rattle.std.proofs.Common.{◌≡◌, ◌*◌, ◌∙◌}
use Rattle.decode.specs.Decoding.{script_of, word_at}
use Rattle.decode.proofs.Chunks.{word_chunk}
use Rattle.decode.proofs.Places.{read_more, place_more}
use Rattle.decode.proofs.decoder.Decoder.read.Goals as goal

pub loop-word-preserved : goal.loop-word-preserved
loop-word-preserved c =
    let chunks = c.as_chunks.ensures in
    let word : c.from_be_bytes.result ≡ word_at c.args.bytes.now (4 * c.loop-word.word-index) =
    c.from_be_bytes.ensures ∙ word_chunk c.min.result _ c.loop-word.word-index c.args.bytes.now c.as_chunks.result.0.now chunks.front chunks.front_len c.loop-word-test.true in
    let s = script_of c.loop-word.script in
    let t = script_of c.step.new.self in
    let told = c.in_ok-step.ensures in (
      read_more c.args.bytes.now c.loop-word.word-index c.from_be_bytes.result s t c.loop-word.invariant.0 word told,
      place_more c.loop-word.word-index c.from_be_bytes.result s t c.loop-word.invariant.1 told,
    )
