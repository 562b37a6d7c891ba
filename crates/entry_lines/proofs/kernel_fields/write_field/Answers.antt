use Rattle.entry_lines.proofs.kernel_fields.write_field.Goals as goal

pub returns-in-Path : goal.returns-in-Path
returns-in-Path c = rw c.in-Path.is c.write_ended.ensures

pub returns-in-XattrNames : goal.returns-in-XattrNames
returns-in-XattrNames c = rw c.in-XattrNames.is c.write_ended-in-XattrNames.ensures

pub returns-in-Signature : goal.returns-in-Signature
returns-in-Signature c = rw c.in-Signature.is c.write_hex.ensures

pub returns-in-EvmSignature : goal.returns-in-EvmSignature
returns-in-EvmSignature c = rw c.in-EvmSignature.is c.write_hex-in-EvmSignature.ensures

pub returns-in-XattrValues : goal.returns-in-XattrValues
returns-in-XattrValues c = rw c.in-XattrValues.is c.write_hex-in-XattrValues.ensures
