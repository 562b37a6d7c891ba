use Rattle.byte_streams.proofs.SinkLaws.{Sends-then, Sends-stops}
use Rattle.answers.proofs.report_texts.write_line.Goals as goal

pub returns-in_err-write_register_words : goal.returns-in_err-write_register_words
returns-in_err-write_register_words g c =
    Sends-stops _ _ _ _ _ _ _ c.from_residual.ensures.1 c.in_err-write_register_words.ensures

pub returns : goal.returns
returns g c = Sends-then _ _ _ tt _ _ _ c.in_ok-write_register_words.ensures (rw c.as_bytes.ensures.value at c.send_pieces.ensures)
