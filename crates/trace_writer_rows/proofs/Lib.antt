pub mod OneProducer
