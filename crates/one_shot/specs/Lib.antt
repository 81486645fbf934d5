pub mod OneShot
