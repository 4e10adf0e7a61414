-- What a configuration asks for is made one by one.
use Rattle.std.proofs.Common.{ℕ, ◌+◌, ◌<◌, List, [], ◌∷◌, ◌++◌, length, take, get_or, sym, subst}
use Rattle.std.specs.List.{AllZip}
use Rattle.std.proofs.lemmas.List.{take_more}
use Rattle.chunk_plain.specs.declared.setup.ProducerSpec.{ProducerSpec}
use Rattle.config_text.specs.declared.config.ConfigProducer.{ConfigProducer}
use Rattle.stream_producer.specs.Setups.{IsSpecOf}

zip_push : (producers : List ConfigProducer) (specs : List ProducerSpec) (producer : ConfigProducer) (spec : ProducerSpec)
    → AllZip IsSpecOf producers specs → IsSpecOf producer spec
    → AllZip IsSpecOf (producers ++ producer ∷ []) (specs ++ spec ∷ [])
zip_push [] [] producer spec made is = (is, tt)
zip_push [] (other ∷ specs) producer spec made is = absurd made
zip_push (one ∷ producers) [] producer spec made is = absurd made
zip_push (one ∷ producers) (other ∷ specs) producer spec made is = (made.0, zip_push producers specs producer spec made.1 is)

-- one producer more
pub specs_more : (producers : List ConfigProducer) (specs : List ProducerSpec) (i : ℕ) (d : ConfigProducer) (spec : ProducerSpec)
    → i < length producers → AllZip IsSpecOf (take i producers) specs → IsSpecOf (get_or producers i d) spec
    → AllZip IsSpecOf (take (i + 1) producers) (specs ++ spec ∷ [])
specs_more producers specs i d spec below made is =
    subst (λ (front : List ConfigProducer). AllZip IsSpecOf front (specs ++ spec ∷ [])) (sym (take_more producers i d below))
    (zip_push (take i producers) specs (get_or producers i d) spec made is)
